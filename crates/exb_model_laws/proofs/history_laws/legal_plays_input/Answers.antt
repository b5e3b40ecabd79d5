use Rattle.exb_model_laws.proofs.PlayedHistories.{legal_plays_input}
use Rattle.exb_model_laws.proofs.history_laws.legal_plays_input.Goals as goal

pub returns : goal.returns
returns c = legal_plays_input
