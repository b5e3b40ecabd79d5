use Rattle.exb_control_spec.proofs.Runs.LaidTables.{rest_is_laid_out}
use Rattle.exb_control_spec.proofs.laws.rest_is_laid_out.Goals as goal

pub returns : goal.returns
returns c = rest_is_laid_out
