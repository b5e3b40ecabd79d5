use Rattle.exb_model_laws.proofs.EagerHistories.{eager_is_legal}
use Rattle.exb_model_laws.proofs.history_laws.eager_is_legal.Goals as goal

pub returns : goal.returns
returns c = eager_is_legal
