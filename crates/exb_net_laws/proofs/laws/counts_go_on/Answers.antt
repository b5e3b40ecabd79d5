use Rattle.exb_net_laws.proofs.CountersGoOn.{counts_go_on}
use Rattle.exb_net_laws.proofs.laws.counts_go_on.Goals as goal

pub returns : goal.returns
returns c = counts_go_on
