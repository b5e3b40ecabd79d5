use Rattle.exb_relay.proofs.TargetChoice.{chosen_same}
use Rattle.exb_relay.proofs.laws.choice_is_the_bridges.Goals as goal

pub returns : goal.returns
returns c = chosen_same
