use Rattle.exb_net_spec.proofs.QueueTermination.{nets_have_histories}
use Rattle.exb_net_spec.proofs.laws.nets_have_histories.Goals as goal

pub returns : goal.returns
returns c = nets_have_histories
