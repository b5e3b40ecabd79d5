use Rattle.exb_control_spec.proofs.Plans.CarriedFrames.{channel_words}
use Rattle.exb_control_spec.proofs.laws.channel_words_carry.Goals as goal

pub returns : goal.returns
returns c = channel_words
