use Rattle.exb_bridge.proofs.HungExtenders.{hung_some, hung_none}
use Rattle.exb_bridge.proofs.tree_index.hung_on.Goals as goal

pub returns-in-Cascade : goal.returns-in-Cascade
returns-in-Cascade c = hung_some c.args.tree.now c.args.port c.role.result c.in-Cascade.extender c.is_tree.ensures c.role.ensures c.in-Cascade.is

pub returns-in_default : goal.returns-in_default
returns-in_default c = hung_none c.args.tree.now c.args.port c.role.result c.is_tree.ensures c.role.ensures c.in_default.not-Cascade
