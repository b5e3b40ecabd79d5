use Rattle.std.proofs.Common.{length}
use Rattle.exb_timeline.specs.Tournaments.{HasLeaves, HasPending}
use Rattle.exb_timeline.proofs.tournament.settle.Given as goal

abbrev pub invariant-nodes : goal.invariant-nodes
invariant-nodes l = HasPending l.moments l.firsts l.node × HasLeaves (length l.moments) l.initial.firsts l.firsts

abbrev pub decreases-nodes : goal.decreases-nodes
decreases-nodes l = l.node
