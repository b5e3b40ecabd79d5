use Rattle.exb_timeline.proofs.PortOrder.{merged-at, merged-none}
use Rattle.exb_timeline.proofs.laws.merge_keeps_order.Goals as goal

pub returns : goal.returns
returns c =
    record {
      ports = (
          λ i p low. merged-at i p low);
      others = (
          λ i p high. merged-none i p high);
    }
