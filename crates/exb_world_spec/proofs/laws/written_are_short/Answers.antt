use Rattle.exb_world_spec.proofs.FrameBytes.{written_are_short}
use Rattle.exb_world_spec.proofs.laws.written_are_short.Goals as goal

pub returns : goal.returns
returns c = written_are_short
