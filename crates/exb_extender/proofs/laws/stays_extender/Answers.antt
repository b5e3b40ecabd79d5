use Rattle.exb_extender.proofs.InvariantLemmas.{stays_extender}
use Rattle.exb_extender.proofs.laws.stays_extender.Goals as goal

pub returns : goal.returns
returns c = stays_extender
