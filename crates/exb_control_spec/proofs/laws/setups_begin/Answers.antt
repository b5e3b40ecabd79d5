use Rattle.exb_control_spec.proofs.Runs.InitialMachine.{setups_begin}
use Rattle.exb_control_spec.proofs.laws.setups_begin.Goals as goal

pub returns : goal.returns
returns c = setups_begin
