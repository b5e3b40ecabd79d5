use Rattle.exb_schedule.proofs.OneBridgeRuns.{rounds_are_whole_on}
use Rattle.exb_schedule.proofs.laws.rounds_go_through.Goals as goal

pub returns : goal.returns
returns c = rounds_are_whole_on c.rounds_are_whole.ensures
