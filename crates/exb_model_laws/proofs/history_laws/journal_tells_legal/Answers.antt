use Rattle.exb_model_laws.proofs.UniqueLegalHistory.{journal_tells_legal}
use Rattle.exb_model_laws.proofs.history_laws.journal_tells_legal.Goals as goal

pub returns : goal.returns
returns c = journal_tells_legal
