use Rattle.exb_net_file.proofs.LoopTest.{joined_is_exact}
use Rattle.exb_net_file.proofs.laws.joined_is_exact.Goals as goal

pub returns : goal.returns
returns c = joined_is_exact
