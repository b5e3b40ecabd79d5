use Rattle.exb_net_spec.proofs.QueueBound.{queues_end_soon}
use Rattle.exb_net_spec.proofs.laws.queues_end_soon.Goals as goal

pub returns : goal.returns
returns c = queues_end_soon
