use Rattle.exb_schedule.proofs.OneBridgeRuns.{events_go_on}
use Rattle.exb_schedule.proofs.laws.events_go_on.Goals as goal

pub returns : goal.returns
returns c = events_go_on c.events_last.ensures
