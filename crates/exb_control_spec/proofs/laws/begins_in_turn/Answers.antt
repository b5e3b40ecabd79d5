use Rattle.exb_control_spec.proofs.Runs.OpeningOrder.{begins_in_turn}
use Rattle.exb_control_spec.proofs.laws.begins_in_turn.Goals as goal

pub returns : goal.returns
returns c = begins_in_turn
