use Rattle.exb_model_laws.proofs.SetupValidity.{no_ring_is_valid}
use Rattle.exb_model_laws.proofs.setup_laws.no_ring_is_valid.Goals as goal

pub returns : goal.returns
returns c = no_ring_is_valid
