use Rattle.exb_numbers.proofs.SpacesByPort.{AreBuilt}
use Rattle.exb_numbers.proofs.spaces.Spaces.new.Given as goal

abbrev pub invariant-loop-number : goal.invariant-loop-number
invariant-loop-number l = AreBuilt l.tree l.channels l.groups l.spaces l.number
