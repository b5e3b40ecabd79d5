use Rattle.exb_control_spec.proofs.Runs.InitialMachine.{begins}
use Rattle.exb_control_spec.proofs.laws.begins.Goals as goal

pub returns : goal.returns
returns c = begins
