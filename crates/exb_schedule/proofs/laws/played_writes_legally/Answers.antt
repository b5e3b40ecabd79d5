use Rattle.exb_schedule.proofs.SegmentLaws.{played_writes_legally}
use Rattle.exb_schedule.proofs.laws.played_writes_legally.Goals as goal

pub returns : goal.returns
returns c = played_writes_legally c.runs_write_legally.ensures
