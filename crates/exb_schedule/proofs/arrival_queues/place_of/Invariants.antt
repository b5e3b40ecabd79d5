use Rattle.std.proofs.Common.{◌≤◌, ◌-◌, length}
use Rattle.exb_schedule.proofs.arrival_queues.place_of.Given as goal

abbrev pub invariant-halves : goal.invariant-halves
invariant-halves l = (l.low ≤ l.high) × (l.high ≤ length l.queues)

abbrev pub decreases-halves : goal.decreases-halves
decreases-halves l = l.high - l.low
