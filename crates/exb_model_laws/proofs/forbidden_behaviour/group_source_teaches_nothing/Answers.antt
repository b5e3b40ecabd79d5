use Rattle.exb_model_laws.proofs.LearningLaws.{group_source_teaches_nothing}
use Rattle.exb_model_laws.proofs.forbidden_behaviour.group_source_teaches_nothing.Goals as goal

pub returns : goal.returns
returns c = group_source_teaches_nothing
