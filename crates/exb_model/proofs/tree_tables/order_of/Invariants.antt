use Rattle.std.proofs.Common.{◌≡◌, ◌+◌, ◌++◌}
use Rattle.exb_model.specs.Tree.{level, levels}
use Rattle.exb_model.proofs.tree_tables.order_of.Given as goal

abbrev pub invariant-loop-above : goal.invariant-loop-above
invariant-loop-above l = l.order.items ≡ levels l.layout l.above

abbrev pub invariant-loop-before : goal.invariant-loop-before
invariant-loop-before l =
    l.order.items ≡ levels l.layout l.above ++ level l.layout (l.above + 1) l.before
