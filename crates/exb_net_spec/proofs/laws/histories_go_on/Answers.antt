use Rattle.exb_net_spec.proofs.HistoryGrowth.{histories_go_on}
use Rattle.exb_net_spec.proofs.laws.histories_go_on.Goals as goal

pub returns : goal.returns
returns c = histories_go_on
