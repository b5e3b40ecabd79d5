use Rattle.exb_world_laws.proofs.StepEvents.{steps_tell_so}
use Rattle.exb_world_laws.proofs.laws.steps.steps_tell_so.Goals as goal

pub returns : goal.returns
returns c = steps_tell_so
