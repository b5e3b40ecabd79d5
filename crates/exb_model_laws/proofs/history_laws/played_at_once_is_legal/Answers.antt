use Rattle.exb_model_laws.proofs.EagerHistories.{at_once_is_legal, at_once_is_eager}
use Rattle.exb_model_laws.proofs.history_laws.played_at_once_is_legal.Goals as goal

pub returns-clause-legal : goal.returns-clause-legal
returns-clause-legal c = at_once_is_legal

pub returns-clause-eager : goal.returns-clause-eager
returns-clause-eager c = at_once_is_eager
