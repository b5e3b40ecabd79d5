use Rattle.exb_relay.proofs.EachSend.{few_at}
use Rattle.exb_relay.proofs.laws.at_most_two.Goals as goal

pub returns : goal.returns
returns c = λ t b look m p f valid ready there k. few_at t b look m p f k valid ready there
