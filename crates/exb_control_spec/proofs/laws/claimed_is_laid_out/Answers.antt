use Rattle.exb_control_spec.proofs.Runs.ClaimedMidChange.{claimed_is_laid_out}
use Rattle.exb_control_spec.proofs.laws.claimed_is_laid_out.Goals as goal

pub returns : goal.returns
returns c = claimed_is_laid_out
