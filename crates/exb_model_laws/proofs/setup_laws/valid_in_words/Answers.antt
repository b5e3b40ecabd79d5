use Rattle.exb_model_laws.proofs.SetupValidity.{valid_in_words}
use Rattle.exb_model_laws.proofs.setup_laws.valid_in_words.Goals as goal

pub returns : goal.returns
returns c = valid_in_words
