use Rattle.exb_model_laws.proofs.LearningLaws.{ageing_zero_learns_nothing}
use Rattle.exb_model_laws.proofs.forbidden_behaviour.ageing_zero_learns_nothing.Goals as goal

pub returns : goal.returns
returns c = ageing_zero_learns_nothing
