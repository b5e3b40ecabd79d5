use Rattle.exb_control_spec.proofs.Runs.InitialMachine.{runs_from_the_beginning}
use Rattle.exb_control_spec.proofs.laws.runs_from_the_beginning.Goals as goal

pub returns : goal.returns
returns c = runs_from_the_beginning
