use Rattle.exb_net.proofs.BridgeSets.{in_none}
use Rattle.exb_net.proofs.bridge_set.BridgeSet.none.Goals as goal

pub returns : goal.returns
returns c = in_none
