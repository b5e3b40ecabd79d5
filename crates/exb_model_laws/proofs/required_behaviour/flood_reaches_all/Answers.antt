use Rattle.exb_model_laws.proofs.FrameReach.{flood_reaches_all}
use Rattle.exb_model_laws.proofs.required_behaviour.flood_reaches_all.Goals as goal

pub returns : goal.returns
returns c = flood_reaches_all
