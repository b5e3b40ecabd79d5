use Rattle.exb_control_spec.proofs.Runs.NumbersInForce.{ready_midway}
use Rattle.exb_control_spec.proofs.laws.ready_midway.Goals as goal

pub returns : goal.returns
returns c = ready_midway
