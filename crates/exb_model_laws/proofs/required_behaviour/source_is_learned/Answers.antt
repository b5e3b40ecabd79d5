use Rattle.exb_model_laws.proofs.EntryLifetime.{source_is_learned}
use Rattle.exb_model_laws.proofs.required_behaviour.source_is_learned.Goals as goal

pub returns : goal.returns
returns c = source_is_learned
