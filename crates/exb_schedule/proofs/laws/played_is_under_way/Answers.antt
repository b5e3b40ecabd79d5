use Rattle.exb_schedule.proofs.SegmentLaws.{played_is_under_way}
use Rattle.exb_schedule.proofs.laws.played_is_under_way.Goals as goal

pub returns : goal.returns
returns c = played_is_under_way c.runs_are_under_way.ensures
