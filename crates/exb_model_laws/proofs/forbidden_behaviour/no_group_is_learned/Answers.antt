use Rattle.exb_model_laws.proofs.LearningLaws.{no_group_is_learned}
use Rattle.exb_model_laws.proofs.forbidden_behaviour.no_group_is_learned.Goals as goal

pub returns : goal.returns
returns c = no_group_is_learned
