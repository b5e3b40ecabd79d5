use Rattle.exb_world_laws.proofs.OneBridge.{settled_owes_nothing}
use Rattle.exb_world_laws.proofs.laws.steps.settled_owes_nothing.Goals as goal

pub returns : goal.returns
returns c = settled_owes_nothing
