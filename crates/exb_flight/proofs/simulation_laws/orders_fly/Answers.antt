use Rattle.exb_flight.proofs.SimulatedControl.{orders_fly}
use Rattle.exb_flight.proofs.simulation_laws.orders_fly.Goals as goal

pub returns : goal.returns
returns c = orders_fly c.tag_round_trip.ensures
