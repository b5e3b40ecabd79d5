use Rattle.exb_schedule.proofs.SegmentLaws.{played_writes_eagerly}
use Rattle.exb_schedule.proofs.laws.played_writes_eagerly.Goals as goal

pub returns : goal.returns
returns c = played_writes_eagerly c.runs_write_eagerly.ensures
