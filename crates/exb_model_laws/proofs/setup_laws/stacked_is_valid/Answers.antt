use Rattle.exb_model_laws.proofs.TwoExtenders.{stacked_is_valid}
use Rattle.exb_model_laws.proofs.setup_laws.stacked_is_valid.Goals as goal

pub returns : goal.returns
returns c = stacked_is_valid
