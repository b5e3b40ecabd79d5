use Rattle.std.proofs.Common.{◌+◌, ap, sym, subst, ◌∙◌}
use Rattle.exb_model.specs.Texts.{counted}
use Rattle.exb_journal.specs.Tallies.{FitsTally, counts_of}
use Rattle.exb_outputs.proofs.CountBounds.{counted_next, fits-so-far}
use Rattle.exb_outputs.proofs.run_counts.count_all.Goals as goal

pub loop-event-preserved : goal.loop-event-preserved
loop-event-preserved c =
    c.count.ensures ∙ ap (counted c.event-item.result) c.loop-event.invariant
    ∙ counted_next c.args.events.now (counts_of c.args.tally.now) c.loop-event.event-index c.event-item.result c.loop-event-test.true c.event-item.is

pub count-requires : goal.count-requires
count-requires c =
    subst FitsTally
    (sym (ap (counted c.event-item.result) c.loop-event.invariant
    ∙ counted_next c.args.events.now (counts_of c.args.tally.now) c.loop-event.event-index c.event-item.result c.loop-event-test.true c.event-item.is))
    (fits-so-far c.args.events.now (counts_of c.args.tally.now) (c.loop-event.event-index + 1) c.requires)
