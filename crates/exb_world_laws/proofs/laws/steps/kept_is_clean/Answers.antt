use Rattle.exb_world_laws.proofs.OneBridge.{kept_is_clean}
use Rattle.exb_world_laws.proofs.laws.steps.kept_is_clean.Goals as goal

pub returns : goal.returns
returns c = kept_is_clean
