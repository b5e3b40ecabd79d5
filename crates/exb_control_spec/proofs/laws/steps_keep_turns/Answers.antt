use Rattle.exb_control_spec.proofs.Runs.OpeningOrder.{steps_keep_turns}
use Rattle.exb_control_spec.proofs.laws.steps_keep_turns.Goals as goal

pub returns : goal.returns
returns c = steps_keep_turns
