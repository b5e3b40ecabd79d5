use Rattle.std.proofs.Common.{◌≡◌, ◌∙◌, sym, subst, true, ℕ, slice_index, arith}
use Rattle.exb_model.specs.Tree.{Shape, is_port, is_external, HangsOn}
use Rattle.exb_model.proofs.TreeTrunks.{external_from}
use Rattle.exb_model.proofs.tree.Tree.role.Goals as goal

pub returns-in-0 : goal.returns-in-0
returns-in-0 c =
    let t : Shape = c.self.inside.layout in
    let known : is_port t c.args.port ≡ true = sym (c.self.invariant.has c.args.port) ∙ (sym c.contains.ensures ∙ c.if-not-contains.false) in
    let none : (n : ℕ) → HangsOn t n c.args.port → ⊥ =
    λ n h.
    let empty : slice_index c.self.inside.below.items c.args.port ≡ 0 = sym (rw (c.in-0.is, c.number.ensures.value) at c.index.ensures) in
    let there : slice_index c.self.inside.below.items c.args.port ≡ n = c.self.invariant.hung.found n c.args.port h in
    omega (arith, h.extender) in
    subst (λ (s : Shape). is_external s c.args.port ≡ true) c.self.view_is (external_from t c.args.port known none)
