use Rattle.exb_model_laws.proofs.ExtenderChains.{chain_is_valid}
use Rattle.exb_model_laws.proofs.setup_laws.chain_is_valid.Goals as goal

pub returns : goal.returns
returns c = chain_is_valid
