use Rattle.exb_control_spec.proofs.Runs.NumbersInForce.{held_are_numbers}
use Rattle.exb_control_spec.proofs.laws.held_are_numbers.Goals as goal

pub returns : goal.returns
returns c = held_are_numbers
