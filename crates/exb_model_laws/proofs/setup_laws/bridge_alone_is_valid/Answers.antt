use Rattle.exb_model_laws.proofs.NoExtenders.{bridge_alone_is_valid}
use Rattle.exb_model_laws.proofs.setup_laws.bridge_alone_is_valid.Goals as goal

pub returns : goal.returns
returns c = bridge_alone_is_valid
