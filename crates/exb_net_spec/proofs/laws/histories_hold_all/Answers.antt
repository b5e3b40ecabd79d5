use Rattle.exb_net_spec.proofs.BridgeHistories.{histories_hold_all}
use Rattle.exb_net_spec.proofs.laws.histories_hold_all.Goals as goal

pub returns : goal.returns
returns c = histories_hold_all
