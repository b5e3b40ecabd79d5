use Rattle.std.proofs.Common.{◌≤◌, sym, arith}
use Rattle.exb_control.proofs.PortRoles.{deep_there, deep_none}
use Rattle.exb_control.proofs.initial_channels.is_deep.Goals as goal

pub returns-in-Cascade : goal.returns-in-Cascade
returns-in-Cascade c =
    let high : 64 ≤ c.args.port = omega arith in
    sym (deep_there c.args.tree.now c.args.port c.in-Cascade.extender c.is_tree.ensures high c.in-Cascade.ensures)

pub returns-in_default : goal.returns-in_default
returns-in_default c = sym (deep_none c.args.tree.now c.args.port c.role.result c.is_tree.ensures c.role.ensures c.in_default.not-Cascade)
