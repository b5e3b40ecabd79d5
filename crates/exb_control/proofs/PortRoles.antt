-- What a port's role says.
use Rattle.std.proofs.Common.{◌≡◌, ℕ, ◌≤◌, ◌&&◌, Bool, true, false, refl, ◌∙◌, ap, nat_le}
use Rattle.std.proofs.lemmas.Bool.{le-leb, and_from}
use Rattle.exb_model.specs.declared.role.Role.{Role}
use Rattle.exb_model.specs.declared.role.Role.TheVariants as role
use Rattle.exb_model.specs.Tree.{Shape, IsTree, HasRole, is_port, is_cascade}
use Rattle.exb_control_spec.proofs.Plans.Trunks.{hung_cascade, other_role}
use Rattle.exb_control_spec.specs.InitialState.{is_deep}

-- a port on which an extender hangs
pub cascade_there : (t : Shape) (p n : ℕ) → IsTree t → HasRole t p (role.Cascade n) → (is_port t p && is_cascade t p) ≡ true
cascade_there t p n valid h = and_from (is_port t p) (is_cascade t p) h.0 (hung_cascade t valid n p h.1)

pub cascade_none : (t : Shape) (p : ℕ) (r : Role) → IsTree t → HasRole t p r → ((n : ℕ) → r ≡ role.Cascade n → ⊥) → (is_port t p && is_cascade t p) ≡ false
cascade_none t p r valid h other = ap (λ b. is_port t p && b) (other_role t valid p r h other) ∙ and_false (is_port t p)
  where
    and_false : (b : Bool) → (b && false) ≡ false
    and_false true = refl
    and_false false = refl

pub deep_there : (t : Shape) (p n : ℕ) → IsTree t → 64 ≤ p → HasRole t p (role.Cascade n) → is_deep t p ≡ true
deep_there t p n valid high h = and_from (nat_le 64 p) (is_port t p && is_cascade t p) (le-leb 64 p high) (cascade_there t p n valid h)

pub deep_none : (t : Shape) (p : ℕ) (r : Role) → IsTree t → HasRole t p r → ((n : ℕ) → r ≡ role.Cascade n → ⊥) → is_deep t p ≡ false
deep_none t p r valid h other = ap (λ b. nat_le 64 p && b) (cascade_none t p r valid h other) ∙ and_false (nat_le 64 p)
  where
    and_false : (b : Bool) → (b && false) ≡ false
    and_false true = refl
    and_false false = refl
