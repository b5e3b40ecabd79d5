use Rattle.exb_model_laws.proofs.FrameReach.{learned_is_reached}
use Rattle.exb_model_laws.proofs.required_behaviour.learned_is_reached.Goals as goal

pub returns : goal.returns
returns c = learned_is_reached
