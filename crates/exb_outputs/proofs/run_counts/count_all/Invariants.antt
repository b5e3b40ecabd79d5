use Rattle.std.proofs.Common.{◌≡◌, take}
use Rattle.exb_journal.specs.Tallies.{counts_of}
use Rattle.exb_outputs.proofs.HistoryCounts.{count_events}
use Rattle.exb_outputs.proofs.run_counts.count_all.Given as goal

abbrev pub invariant-loop-event : goal.invariant-loop-event
invariant-loop-event l = counts_of l.tally ≡ count_events (counts_of l.fn.tally) (take l.event-index l.events)
