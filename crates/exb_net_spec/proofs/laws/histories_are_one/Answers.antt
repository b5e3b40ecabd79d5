use Rattle.exb_net_spec.proofs.EmptyQueues.{histories_are_one}
use Rattle.exb_net_spec.proofs.laws.histories_are_one.Goals as goal

pub returns : goal.returns
returns c = histories_are_one
