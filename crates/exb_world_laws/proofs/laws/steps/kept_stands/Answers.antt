use Rattle.exb_world_laws.proofs.OneBridge.{kept_stands}
use Rattle.exb_world_laws.proofs.laws.steps.kept_stands.Goals as goal

pub returns : goal.returns
returns c = kept_stands
