use Rattle.exb_counters.proofs.EventCounts.{LeadsOn}
use Rattle.exb_counters.proofs.counters.Counters.events.Given as goal

abbrev pub invariant-loop-event : goal.invariant-loop-event
invariant-loop-event l = LeadsOn l.initial.self l.self l.events l.event-index l.said l.rest
