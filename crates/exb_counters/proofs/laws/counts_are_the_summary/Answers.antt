use Rattle.exb_counters.proofs.Summary.{counts_are_the_summary}
use Rattle.exb_counters.proofs.laws.counts_are_the_summary.Goals as goal

pub returns : goal.returns
returns c = counts_are_the_summary
