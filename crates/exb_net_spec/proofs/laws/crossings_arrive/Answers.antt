use Rattle.exb_net_spec.proofs.WireArrivals.{crossings_arrive}
use Rattle.exb_net_spec.proofs.laws.crossings_arrive.Goals as goal

pub returns : goal.returns
returns c = crossings_arrive
