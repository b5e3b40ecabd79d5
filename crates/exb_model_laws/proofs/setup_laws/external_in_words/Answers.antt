use Rattle.exb_model_laws.proofs.SetupValidity.{external_in_words}
use Rattle.exb_model_laws.proofs.setup_laws.external_in_words.Goals as goal

pub returns : goal.returns
returns c = external_in_words
