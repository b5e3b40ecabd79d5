use Rattle.exb_world_spec.proofs.Directions.{taking_leaves}
use Rattle.exb_world_spec.proofs.laws.taking_leaves_its_direction.Goals as goal

pub returns : goal.returns
returns c = taking_leaves
