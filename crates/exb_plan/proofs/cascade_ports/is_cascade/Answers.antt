use Rattle.std.proofs.Common.{◌≡◌, ◌∙◌, ◌+◌, ◌-◌, ◌*◌, ap, arith}
use Rattle.exb_model.specs.Tree.{is_cascade}
use Rattle.exb_plan.proofs.cascade_ports.is_cascade.Goals as goal

pub returns : goal.returns
returns c =
    let at : 64 * 0 + (c.args.bridge_port - 1) ≡ c.args.bridge_port - 1 = omega arith in
    c.is_cascade.ensures ∙ ap (is_cascade c.args.tree.now) (c.at.ensures ∙ at)
