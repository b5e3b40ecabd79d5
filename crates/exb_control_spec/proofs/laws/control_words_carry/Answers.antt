use Rattle.exb_control_spec.proofs.Plans.CarriedFrames.{control_words}
use Rattle.exb_control_spec.proofs.laws.control_words_carry.Goals as goal

pub returns : goal.returns
returns c = control_words
