use Rattle.exb_timeline.proofs.NetStart.{start_is}
use Rattle.exb_timeline.proofs.laws.net_start_is_least.Goals as goal

pub returns : goal.returns
returns c = start_is
