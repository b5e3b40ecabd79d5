use Rattle.exb_model_laws.proofs.UniqueLegalHistory.{small_is_written}
use Rattle.exb_model_laws.proofs.history_laws.small_is_written.Goals as goal

pub returns : goal.returns
returns c = small_is_written
