use Rattle.exb_world_spec.proofs.Directions.{directions_in_order}
use Rattle.exb_world_spec.proofs.laws.directions_go_in_order.Goals as goal

pub returns : goal.returns
returns c = directions_in_order
