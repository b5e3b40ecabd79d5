use Rattle.exb_world_spec.proofs.Hops.{control_goes_on}
use Rattle.exb_world_spec.proofs.laws.control_goes_on.Goals as goal

pub returns : goal.returns
returns c = control_goes_on c.tag_round_trip.ensures
