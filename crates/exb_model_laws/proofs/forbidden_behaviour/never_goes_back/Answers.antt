use Rattle.exb_model_laws.proofs.RelayLaws.{never_goes_back}
use Rattle.exb_model_laws.proofs.forbidden_behaviour.never_goes_back.Goals as goal

pub returns : goal.returns
returns c = never_goes_back
