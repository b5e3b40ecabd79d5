use Rattle.std.proofs.Common.{ap, ◌∙◌}
use Rattle.exb_model.specs.Tree.{Shape, is_cascade}
use Rattle.exb_model.proofs.TreeTrunks.{noted_cascade}
use Rattle.exb_model.proofs.tree.Tree.is_cascade.Goals as goal

pub returns : goal.returns
returns c =
    rw (c.as_slice-below.ensures.value, c.number.ensures.value)
    (noted_cascade c.self.inside.layout c.self.inside.below.items c.args.port c.self.invariant.tree c.self.invariant.hung
    ∙ ap (λ (s : Shape). is_cascade s c.args.port) c.self.view_is)
