use Rattle.std.proofs.Common.{subst, arith}
use Rattle.std.specs.Prelude.{All}
use Rattle.std.proofs.lemmas.List.{take_all}
use Rattle.std.proofs.lemmas.List.Elements.{All-more}
use Rattle.exb_trace_spec.specs.RoundTrips.{IsOfNumbers}
use Rattle.exb_audit.proofs.facts.events_numbers.Goals as goal

pub loop-event-preserved : goal.loop-event-preserved
loop-event-preserved c =
    let xs = c.args.events.now in
    All-more IsOfNumbers xs c.loop-event.event-index c.event-item.result c.loop-event-test.true c.loop-event.invariant (subst IsOfNumbers c.event-item.is c.event_numbers.ensures)

pub returns : goal.returns
returns c = subst (All IsOfNumbers) (take_all c.loop-event.event-index c.args.events.now (omega arith)) c.loop-event.invariant
