use Rattle.exb_model_laws.proofs.NoExtenders.{start_is_judged}
use Rattle.exb_model_laws.proofs.setup_laws.start_is_judged.Goals as goal

pub returns : goal.returns
returns c = start_is_judged
