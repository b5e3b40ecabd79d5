use Rattle.exb_world_spec.proofs.Hops.{settled_is_at_rest}
use Rattle.exb_world_spec.proofs.laws.settled_is_at_rest.Goals as goal

pub returns : goal.returns
returns c = settled_is_at_rest
