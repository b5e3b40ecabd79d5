use Rattle.exb_world_spec.proofs.FrameBytes.{begins_written}
use Rattle.exb_world_spec.proofs.laws.begins_written.Goals as goal

pub returns : goal.returns
returns c = begins_written
