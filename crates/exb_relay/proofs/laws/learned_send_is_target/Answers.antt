use Rattle.exb_relay.proofs.EachSend.{learned}
use Rattle.exb_relay.proofs.laws.learned_send_is_target.Goals as goal

pub returns : goal.returns
returns c = λ t b look m p f v k r valid pass is under. learned t b look m p f v k r valid pass is under
