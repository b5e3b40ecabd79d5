use Rattle.exb_world_laws.proofs.SettledHistories.{settled_is_orderly}
use Rattle.exb_world_laws.proofs.laws.steps.settled_is_orderly.Goals as goal

pub returns : goal.returns
returns c = settled_is_orderly
