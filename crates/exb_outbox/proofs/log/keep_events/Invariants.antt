use Rattle.std.proofs.Common.{length}
use Rattle.exb_outbox.proofs.log.keep_events.Given as goal

-- those that are left
abbrev pub decreases-loop-event : goal.decreases-loop-event
decreases-loop-event l = length l.events
