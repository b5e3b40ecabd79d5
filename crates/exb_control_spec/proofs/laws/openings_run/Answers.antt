use Rattle.exb_control_spec.proofs.Runs.Openings.{openings_run}
use Rattle.exb_control_spec.proofs.laws.openings_run.Goals as goal

pub returns : goal.returns
returns c = openings_run
