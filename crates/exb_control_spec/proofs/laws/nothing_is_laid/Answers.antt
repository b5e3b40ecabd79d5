use Rattle.exb_control_spec.proofs.Runs.InitialTables.{nothing_is_laid}
use Rattle.exb_control_spec.proofs.laws.nothing_is_laid.Goals as goal

pub returns : goal.returns
returns c = nothing_is_laid
