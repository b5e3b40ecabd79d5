use Rattle.exb_net_file.proofs.Size.{nets_are_timely}
use Rattle.exb_net_file.proofs.laws.nets_are_timely.Goals as goal

pub returns : goal.returns
returns c = nets_are_timely
