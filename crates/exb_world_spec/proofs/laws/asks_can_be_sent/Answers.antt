use Rattle.exb_world_spec.proofs.Requests.{asks_can_be_sent}
use Rattle.exb_world_spec.proofs.laws.asks_can_be_sent.Goals as goal

pub returns : goal.returns
returns c = asks_can_be_sent
