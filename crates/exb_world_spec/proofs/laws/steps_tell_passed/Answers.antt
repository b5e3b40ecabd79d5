use Rattle.exb_world_spec.proofs.PassedFrames.{steps_tell_passed}
use Rattle.exb_world_spec.proofs.laws.steps_tell_passed.Goals as goal

pub returns : goal.returns
returns c = steps_tell_passed
