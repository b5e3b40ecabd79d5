use Rattle.exb_world_laws.proofs.Setups.{setups_may_start}
use Rattle.exb_world_laws.proofs.laws.steps.setups_may_start.Goals as goal

pub returns : goal.returns
returns c = setups_may_start
