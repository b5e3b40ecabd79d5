use Rattle.std.proofs.Common.{◌-◌, ◌≤◌}
use Rattle.exb_world.proofs.LinkTurns.{IsSoFar}
use Rattle.exb_world.proofs.link_turns.first_among.Given as goal

-- the first place of the links so far
abbrev pub invariant-links : goal.invariant-links
invariant-links l = (l.number ≤ 65) × IsSoFar l.order l.links l.from l.number l.first

abbrev pub decreases-links : goal.decreases-links
decreases-links l = 65 - l.number
