use Rattle.std.proofs.Common.{◌∙◌, sym, ap, arith}
use Rattle.exb_model.specs.Tree.{Shape, is_extender}
use Rattle.exb_model.proofs.TreeTrunks.{past_devices}
use Rattle.exb_model.proofs.tree.Tree.is_extender.Goals as goal

pub returns-then-number-ge-DEVICES : goal.returns-then-number-ge-DEVICES
returns-then-number-ge-DEVICES c =
    let t : Shape = c.self.inside.layout in
    sym (past_devices t c.self.invariant.tree c.args.number (omega arith)) ∙ ap (λ (s : Shape). is_extender s c.args.number) c.self.view_is
