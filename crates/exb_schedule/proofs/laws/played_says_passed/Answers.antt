use Rattle.exb_schedule.proofs.SegmentLaws.{played_says_passed}
use Rattle.exb_schedule.proofs.laws.played_says_passed.Goals as goal

pub returns : goal.returns
returns c = played_says_passed c.runs_say_passed.ensures
