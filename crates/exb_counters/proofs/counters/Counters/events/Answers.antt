use Rattle.exb_counters.proofs.EventCounts.{leads_first, leads_more, leads_last, fits_one}
use Rattle.exb_counters.proofs.counters.Counters.events.Goals as goal

pub loop-event-init : goal.loop-event-init
loop-event-init c = leads_first c.args.self.now c.args.events.now c.args.said.now

pub event-rest-requires : goal.event-rest-requires
event-rest-requires c =
    fits_one c.args.self.now c.loop-event.self c.args.events.now c.loop-event.event-index c.args.said.now c.loop-event.rest.now c.event-item.result c.loop-event-test.true c.event-item.is
    c.loop-event.invariant c.requires

pub loop-event-preserved : goal.loop-event-preserved
loop-event-preserved c =
    leads_more c.args.self.now c.loop-event.self c.args.events.now c.loop-event.event-index c.args.said.now c.loop-event.rest.now c.event-item.result c.loop-event-test.true c.event-item.is
    c.loop-event.invariant c.event-rest.new.self c.event-rest.result.now c.event-rest.ensures.rest c.event-rest.ensures.ports c.event-rest.ensures.counts

pub returns-clause-ports : goal.returns-clause-ports
returns-clause-ports c = c.loop-event.invariant.ports

pub returns-clause-counts : goal.returns-clause-counts
returns-clause-counts c =
    leads_last c.args.self.now c.loop-event.self c.args.events.now c.loop-event.event-index c.args.said.now c.loop-event.rest.now c.loop-event-test.false c.loop-event.invariant
