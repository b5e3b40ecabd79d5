use Rattle.exb_world_laws.proofs.OneBridgeSteps.{stands_owes_nothing}
use Rattle.exb_world_laws.proofs.laws.steps.stands_owes_nothing.Goals as goal

pub returns : goal.returns
returns c = stands_owes_nothing
