use Rattle.exb_net_laws.proofs.OpenedBridges.{opened_nets_are_new}
use Rattle.exb_net_laws.proofs.laws.opened_nets_are_new.Goals as goal

pub returns : goal.returns
returns c = opened_nets_are_new c.runs_are_few.ensures c.runs_are_under_way.ensures
