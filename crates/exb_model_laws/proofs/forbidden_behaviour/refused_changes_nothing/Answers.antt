use Rattle.exb_model_laws.proofs.LearningLaws.{refused_changes_nothing}
use Rattle.exb_model_laws.proofs.forbidden_behaviour.refused_changes_nothing.Goals as goal

pub returns : goal.returns
returns c = refused_changes_nothing
