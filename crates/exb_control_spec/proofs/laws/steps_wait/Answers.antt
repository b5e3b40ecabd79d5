use Rattle.exb_control_spec.proofs.Runs.Serials.{steps_wait}
use Rattle.exb_control_spec.proofs.laws.steps_wait.Goals as goal

pub returns : goal.returns
returns c = steps_wait
