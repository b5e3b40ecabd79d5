use Rattle.std.proofs.Common.{◌≡◌, ◌∙◌, ℕ, ◌+◌, ◌/◌, sym, refl, subst, arith}
use Rattle.exb_model.specs.Tree.{is_under, trunk}
use Rattle.exb_plan.proofs.BranchLemmas.{not_under, under_trunk}
use Rattle.exb_plan.proofs.branches.Branches.above.Goals as goal

pub returns-then-not-is_extended : goal.returns-then-not-is_extended
returns-then-not-is_extended g c =
    let t = c.args.tree.now in
    let p = c.args.port in
    c.below.ensures (λ k. is_under t k p) (λ k low. not_under t p 1 1 k (sym c.is_extended.ensures ∙ c.if-not-is_extended.true) (omega arith))

pub returns : goal.returns
returns g c =
    let t = c.args.tree.now in
    let p = c.args.port in
    let is : c.trunk-first.result ≡ trunk t (p / 64) + 1 = subst (λ (n : ℕ). c.trunk-first.result ≡ trunk t n + 1) c.device.ensures.value c.trunk-first.ensures.value in
    c.below-2.ensures (λ k. is_under t k p)
    (λ k low. under_trunk t p c.trunk-first.result (c.trunk-first.result + 1) k (sym c.is_extended.ensures ∙ c.if-not-is_extended.false) is refl)
