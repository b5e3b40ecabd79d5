use Rattle.exb_schedule.proofs.OneBridgeRuns.{runs_stay_standing}
use Rattle.exb_schedule.proofs.laws.runs_stay_standing.Goals as goal

pub returns : goal.returns
returns c = runs_stay_standing c.runs_last.ensures
