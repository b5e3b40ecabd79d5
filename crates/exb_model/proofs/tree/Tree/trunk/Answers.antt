use Rattle.std.proofs.Common.{◌≡◌, ◌∙◌, true, subst, sym, ap, arith, ℕ, ◌+◌}
use Rattle.exb_model.specs.Tree.{Shape, is_extender, trunk}
use Rattle.exb_model.proofs.TreeTrunks.{topped-low}
use Rattle.exb_model.proofs.tree.Tree.trunk.Goals as goal

pub overflow_cast-result-2 : goal.overflow_cast-result-2
overflow_cast-result-2 c =
    let t : Shape = c.self.inside.layout in
    let there = subst (λ (s : Shape). is_extender s c.args.extender ≡ true) (sym c.self.view_is) c.requires in
    let low = topped-low t c.self.inside.tops c.self.invariant.tree c.self.invariant.topped c.args.extender there in
    omega (arith, low.0)

pub overflow_add-result : goal.overflow_add-result
overflow_add-result c =
    let t : Shape = c.self.inside.layout in
    let there = subst (λ (s : Shape). is_extender s c.args.extender ≡ true) (sym c.self.view_is) c.requires in
    let low = topped-low t c.self.inside.tops c.self.invariant.tree c.self.invariant.topped c.args.extender there in
    omega (arith, low.0)

pub returns-clause-range : goal.returns-clause-range
returns-clause-range c =
    let t : Shape = c.self.inside.layout in
    let there = subst (λ (s : Shape). is_extender s c.args.extender ≡ true) (sym c.self.view_is) c.requires in
    let low = topped-low t c.self.inside.tops c.self.invariant.tree c.self.invariant.topped c.args.extender there in
    omega (arith, low.0)

pub returns-clause-value : goal.returns-clause-value
returns-clause-value c =
    let t : Shape = c.self.inside.layout in
    let there = subst (λ (s : Shape). is_extender s c.args.extender ≡ true) (sym c.self.view_is) c.requires in
    let low = topped-low t c.self.inside.tops c.self.invariant.tree c.self.invariant.topped c.args.extender there in
    ap (λ (n : ℕ). n + 1) (low.1 ∙ ap (λ (s : Shape). trunk s c.args.extender) c.self.view_is)
