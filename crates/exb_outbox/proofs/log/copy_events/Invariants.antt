use Rattle.std.proofs.Common.{◌≡◌, ◌++◌, take}
use Rattle.exb_outbox.proofs.log.copy_events.Given as goal

abbrev pub invariant-loop-event : goal.invariant-loop-event
invariant-loop-event l = l.to ≡ l.initial.to ++ take l.event-index l.events
