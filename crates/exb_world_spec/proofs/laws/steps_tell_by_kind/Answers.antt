use Rattle.exb_world_spec.proofs.StepEvents.{steps_tell_by_kind}
use Rattle.exb_world_spec.proofs.laws.steps_tell_by_kind.Goals as goal

pub returns : goal.returns
returns c = steps_tell_by_kind
