use Rattle.exb_net_spec.proofs.QueueTermination.{queues_end}
use Rattle.exb_net_spec.proofs.laws.queues_end.Goals as goal

pub returns : goal.returns
returns c = queues_end
