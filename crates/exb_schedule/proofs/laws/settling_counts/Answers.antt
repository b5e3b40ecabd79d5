use Rattle.exb_schedule.proofs.BeatCounts.{settling_counts}
use Rattle.exb_schedule.proofs.laws.settling_counts.Goals as goal

pub returns : goal.returns
returns c = settling_counts c.rounds_are_whole.ensures
