use Rattle.exb_run.proofs.CounterSums.{counters_sum_up}
use Rattle.exb_run.proofs.laws.counters_sum_up.Goals as goal

pub returns : goal.returns
returns c = counters_sum_up c.read_is_sound.ensures c.counts_of_inputs_are_the_summary.ensures
