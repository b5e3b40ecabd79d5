use Rattle.std.proofs.Common.{◌≡◌, ◌-◌, ◌++◌}
use Rattle.exb_model.specs.Tree.{level}
use Rattle.exb_bridge.proofs.DeepestFirst.{deeper}
use Rattle.exb_bridge.proofs.extender_order.deepest_first.Given as goal

abbrev pub invariant-loop-below : goal.invariant-loop-below
invariant-loop-below l = l.order.items ≡ deeper l.tree l.below

abbrev pub invariant-loop-before : goal.invariant-loop-before
invariant-loop-before l = l.order.items ≡ deeper l.tree l.below ++ level l.tree (64 - l.below) l.before
