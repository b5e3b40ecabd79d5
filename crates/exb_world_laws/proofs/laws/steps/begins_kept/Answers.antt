use Rattle.exb_world_laws.proofs.OneBridge.{begins_kept}
use Rattle.exb_world_laws.proofs.laws.steps.begins_kept.Goals as goal

pub returns : goal.returns
returns c = begins_kept
