use Rattle.exb_net.proofs.BridgeSets.{in_all}
use Rattle.exb_net.proofs.bridge_set.BridgeSet.all.Goals as goal

pub returns : goal.returns
returns c = in_all
