use Rattle.exb_counters.proofs.AllowedArrivals.{counts_of_inputs_are_the_summary}
use Rattle.exb_counters.proofs.laws.counts_of_inputs_are_the_summary.Goals as goal

pub returns : goal.returns
returns c = counts_of_inputs_are_the_summary
