use Rattle.exb_control_spec.proofs.Runs.Serials.{steps_number}
use Rattle.exb_control_spec.proofs.laws.steps_number.Goals as goal

pub returns : goal.returns
returns c = steps_number
