use Rattle.exb_control_spec.proofs.Runs.NumbersInForce.{answers_are_taken}
use Rattle.exb_control_spec.proofs.laws.answers_are_taken.Goals as goal

pub returns : goal.returns
returns c = answers_are_taken
