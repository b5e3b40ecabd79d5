use Rattle.std.proofs.Common.{◌≡◌, ◌-◌, ◌&&◌, ◌∙◌, true, false, Bool, ℕ, nat_lt, sym, ap, arith, subst, refl}
use Rattle.std.proofs.lemmas.Bool.{and_from, lt-ltb}
use Rattle.exb_model.specs.Tree.{is_cascade}
use Rattle.exb_control_spec.proofs.Plans.Trunks.{hung_cascade, other_role}
use Rattle.exb_control_spec.specs.Plans.HeldNumbers.{is_place}
use Rattle.exb_control_spec.proofs.CascadePlaces.{place_true, place_false}
use Rattle.exb_control.proofs.release.is_place.Goals as goal

pub returns-in-Cascade : goal.returns-in-Cascade
returns-in-Cascade c =
    let t = c.args.tree.now in
    let k = c.args.bridge_port - 1 in
    let at : c.unwrap.result ≡ k = rw c.unwrap.ensures at c.new.ensures.value in
    let hung : is_cascade t k ≡ true = subst (λ (x : ℕ). is_cascade t x ≡ true) at (hung_cascade t c.is_tree.ensures c.in-Cascade.extender c.unwrap.result c.in-Cascade.ensures.1) in
    sym (and_from (nat_lt 0 c.args.bridge_port) (is_place t k) (lt-ltb 0 c.args.bridge_port (omega arith)) (place_true t k (omega arith) hung))

pub returns-in_default : goal.returns-in_default
returns-in_default c =
    let t = c.args.tree.now in
    let k = c.args.bridge_port - 1 in
    let at : c.unwrap.result ≡ k = rw c.unwrap.ensures at c.new.ensures.value in
    let off : is_cascade t k ≡ false = subst (λ (x : ℕ). is_cascade t x ≡ false) at (other_role t c.is_tree.ensures c.unwrap.result c.role.result c.role.ensures c.in_default.not-Cascade) in
    sym (ap (λ (b : Bool). nat_lt 0 c.args.bridge_port && b) (place_false t k off) ∙ and_false (nat_lt 0 c.args.bridge_port))
  where
    and_false : (b : Bool) → (b && false) ≡ false
    and_false true = refl
    and_false false = refl
