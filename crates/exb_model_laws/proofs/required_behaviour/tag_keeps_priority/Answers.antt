use Rattle.exb_model_laws.proofs.TagPreservation.{tag_keeps_priority}
use Rattle.exb_model_laws.proofs.required_behaviour.tag_keeps_priority.Goals as goal

pub returns : goal.returns
returns c = tag_keeps_priority
