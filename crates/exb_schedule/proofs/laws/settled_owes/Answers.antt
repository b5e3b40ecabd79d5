use Rattle.exb_schedule.proofs.OneBridgeRuns.{settled_owes}
use Rattle.exb_schedule.proofs.laws.settled_owes.Goals as goal

pub returns : goal.returns
returns c = settled_owes c.stands_owes_nothing.ensures
