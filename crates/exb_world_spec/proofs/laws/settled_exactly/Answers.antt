use Rattle.exb_world_spec.proofs.Rounds.{settled_exactly}
use Rattle.exb_world_spec.proofs.laws.settled_exactly.Goals as goal

pub returns : goal.returns
returns c = settled_exactly
