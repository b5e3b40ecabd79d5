use Rattle.exb_control_spec.proofs.Plans.CarriedFrames.{group_words}
use Rattle.exb_control_spec.proofs.laws.group_words_carry.Goals as goal

pub returns : goal.returns
returns c = group_words
