use Rattle.exb_world_laws.proofs.SegmentHistories.{settling_plays}
use Rattle.exb_world_laws.proofs.laws.steps.settling_plays.Goals as goal

pub returns : goal.returns
returns c = settling_plays
