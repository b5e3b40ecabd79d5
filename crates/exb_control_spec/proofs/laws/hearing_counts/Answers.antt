use Rattle.exb_control_spec.proofs.Runs.ExchangeCounts.{hearing_counts}
use Rattle.exb_control_spec.proofs.laws.hearing_counts.Goals as goal

pub returns : goal.returns
returns c = hearing_counts
