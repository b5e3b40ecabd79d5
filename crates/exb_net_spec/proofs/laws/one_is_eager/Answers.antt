use Rattle.exb_net_spec.proofs.SingleBridge.{one_is_eager}
use Rattle.exb_net_spec.proofs.laws.one_is_eager.Goals as goal

pub returns : goal.returns
returns c = one_is_eager
