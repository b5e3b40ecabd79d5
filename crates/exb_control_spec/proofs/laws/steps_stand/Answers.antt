use Rattle.exb_control_spec.proofs.Runs.PlannedChanges.{planned_steps_stand}
use Rattle.exb_control_spec.proofs.laws.steps_stand.Goals as goal

pub returns : goal.returns
returns c = planned_steps_stand
