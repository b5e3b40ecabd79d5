use Rattle.exb_control_spec.proofs.Runs.RequestTargets.{steps_know}
use Rattle.exb_control_spec.proofs.laws.steps_know.Goals as goal

pub returns : goal.returns
returns c = steps_know
