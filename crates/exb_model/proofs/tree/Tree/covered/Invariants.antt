use Rattle.exb_model.specs.Ports.{port_in}
use Rattle.exb_model.proofs.TreeCover.{Marked}
use Rattle.exb_model.proofs.tree.Tree.covered.Given as goal

-- the extenders from this place on have had their turn
abbrev pub invariant-loop-index : goal.invariant-loop-index
invariant-loop-index l = Marked l.self (port_in l.set) l.marks.words l.index
