use Rattle.exb_relay.proofs.EachSend.{locals}
use Rattle.exb_relay.proofs.laws.local_sends_are_targets.Goals as goal

pub returns : goal.returns
returns c = λ t b look m p f there q l. locals t b look m p f q l there
