use Rattle.exb_relay.proofs.EachSend.{sends_are}
use Rattle.exb_relay.proofs.laws.sends_are_words.Goals as goal

pub returns : goal.returns
returns c = sends_are
