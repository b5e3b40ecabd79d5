use Rattle.std.proofs.Common.{All, take}
use Rattle.exb_trace_spec.specs.RoundTrips.{IsOfNumbers}
use Rattle.exb_audit.proofs.facts.events_numbers.Given as goal

abbrev pub invariant-loop-event : goal.invariant-loop-event
invariant-loop-event l = All IsOfNumbers (take l.event-index l.events)
