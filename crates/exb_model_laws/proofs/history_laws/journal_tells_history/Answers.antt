use Rattle.exb_model_laws.proofs.UniqueHistory.{journal_tells_history}
use Rattle.exb_model_laws.proofs.history_laws.journal_tells_history.Goals as goal

pub returns : goal.returns
returns c = journal_tells_history
