use Rattle.exb_control_spec.proofs.Runs.PlannedChanges.{planned_runs_stand}
use Rattle.exb_control_spec.proofs.laws.runs_stand.Goals as goal

pub returns : goal.returns
returns c = planned_runs_stand
