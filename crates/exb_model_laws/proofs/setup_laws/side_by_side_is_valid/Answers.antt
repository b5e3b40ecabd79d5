use Rattle.exb_model_laws.proofs.TwoExtenders.{side_by_side_is_valid}
use Rattle.exb_model_laws.proofs.setup_laws.side_by_side_is_valid.Goals as goal

pub returns : goal.returns
returns c = side_by_side_is_valid
