use Rattle.std.proofs.Common.{sym, ◌∙◌}
use Rattle.exb_bridge.proofs.HungExtenders.{hung_numbered}
use Rattle.exb_bridge.proofs.incoming.put_word.Goals as goal

pub push-requires : goal.push-requires
push-requires g c = hung_numbered c.tree-tree.result.now c.is_tree.ensures c.at.result c.in-Some.below (sym c.hung_on.ensures ∙ c.in-Some.is)
