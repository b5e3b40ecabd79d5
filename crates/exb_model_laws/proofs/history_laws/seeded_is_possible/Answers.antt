use Rattle.exb_model_laws.proofs.EagerHistories.{seeded_is_possible}
use Rattle.exb_model_laws.proofs.history_laws.seeded_is_possible.Goals as goal

pub returns : goal.returns
returns c = seeded_is_possible
