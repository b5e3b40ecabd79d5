use Rattle.exb_extender.proofs.IdleLemmas.{through_beats}
use Rattle.exb_extender.proofs.laws.rests_through_beats.Goals as goal

pub returns : goal.returns
returns c = through_beats
