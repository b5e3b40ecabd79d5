-- Who hangs on a port, by the role of the port.
use Rattle.std.proofs.Common.{◌≡◌, ℕ, true, not, refl, ap, sym, subst, ◌∙◌}
use Rattle.std.specs.Prelude.{Option, Some, None}
use Rattle.std.proofs.lemmas.Bool.{and_parts, false≢true}
use Rattle.exb_model.specs.declared.role.Role.{Role}
use Rattle.exb_model.specs.declared.role.Role.TheVariants as role
use Rattle.exb_model.specs.Tree.{Shape, IsTree, HasRole, HangsOn, is_port, is_cascade}
use Rattle.exb_model.proofs.TreeTrunks.{hung_cascade}
use Rattle.exb_world_spec.specs.ExtenderSteps.{hung_on}
use Rattle.exb_world_spec.proofs.Trunks.{hung_is, hung_found, extender_there}
use Rattle.exb_model.specs.DeviceSets.{IsNumber}
use Rattle.exb_bridge.proofs.DeepestFirst.{extender_number}

-- it has a number
pub hung_numbered : (t : Shape) → IsTree t → (p n : ℕ) → hung_on t p ≡ Some n → IsNumber n
hung_numbered t tree p n is = extender_number t tree n (extender_there t n p (hung_is t p n is))

pub hung_some : (t : Shape) (p : ℕ) (r : Role) (n : ℕ) → IsTree t → HasRole t p r → r ≡ role.Cascade n → Some n ≡ hung_on t p
hung_some t p r n tree has is = let h : HasRole t p (role.Cascade n) = subst (HasRole t p) is has in sym (hung_found t tree n p h.1)

none_hangs : (t : Shape) (p : ℕ) (r : Role) (n : ℕ) → IsTree t → HasRole t p r → ((m : ℕ) → r ≡ role.Cascade m → ⊥) → HangsOn t n p → ⊥
none_hangs t p role.Unknown n tree has other hangs =
    let there : is_port t p ≡ true = subst (λ (q : ℕ). is_port t q ≡ true) hangs.at (tree.on_port n hangs.extender hangs.there) in
    false≢true (sym has ∙ there)
none_hangs t p role.External n tree has other hangs =
    let outer : not (is_cascade t p) ≡ true = (and_parts (is_port t p) (not (is_cascade t p)) has).1 in
    false≢true (sym (ap not (hung_cascade t tree n p hangs)) ∙ outer)
none_hangs t p (role.Cascade m) n tree has other hangs = other m refl

pub hung_none : (t : Shape) (p : ℕ) (r : Role) → IsTree t → HasRole t p r → ((m : ℕ) → r ≡ role.Cascade m → ⊥) → None ≡ hung_on t p
hung_none t p r tree has other = by_hung (hung_on t p) refl
  where
    by_hung : (x : Option ℕ) → hung_on t p ≡ x → None ≡ x
    by_hung None e = refl
    by_hung (Some n) e = absurd (none_hangs t p r n tree has other (hung_is t p n e))
