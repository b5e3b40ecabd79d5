use Rattle.exb_control_spec.proofs.Runs.ExchangeCounts.{answers_count}
use Rattle.exb_control_spec.proofs.laws.answers_count.Goals as goal

pub returns : goal.returns
returns c = answers_count
