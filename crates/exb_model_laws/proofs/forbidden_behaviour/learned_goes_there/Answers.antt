use Rattle.exb_model_laws.proofs.RelayLaws.{learned_goes_there}
use Rattle.exb_model_laws.proofs.forbidden_behaviour.learned_goes_there.Goals as goal

pub returns : goal.returns
returns c = learned_goes_there
