use Rattle.exb_model_laws.proofs.EntryLifetime.{learned_stays}
use Rattle.exb_model_laws.proofs.required_behaviour.learned_stays.Goals as goal

pub returns : goal.returns
returns c = learned_stays
