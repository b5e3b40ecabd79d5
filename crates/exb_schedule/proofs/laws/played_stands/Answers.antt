use Rattle.exb_schedule.proofs.OneBridgeRuns.{played_stands}
use Rattle.exb_schedule.proofs.laws.played_stands.Goals as goal

pub returns : goal.returns
returns c = played_stands c.plays_stand.ensures
