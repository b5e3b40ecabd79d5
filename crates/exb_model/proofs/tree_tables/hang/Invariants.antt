use Rattle.exb_model.proofs.TreeTrunks.{Noted}
use Rattle.exb_model.proofs.tree_tables.hang.Given as goal

-- the extenders so far are noted, and no others
abbrev pub invariant-loop-number : goal.invariant-loop-number
invariant-loop-number l = Noted l.layout l.below l.number
