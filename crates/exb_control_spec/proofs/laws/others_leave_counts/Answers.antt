use Rattle.exb_control_spec.proofs.Runs.ExchangeCounts.{others_leave_counts}
use Rattle.exb_control_spec.proofs.laws.others_leave_counts.Goals as goal

pub returns : goal.returns
returns c = others_leave_counts
