use Rattle.exb_flight.proofs.SimulatedDeliveries.{controls_fly}
use Rattle.exb_flight.proofs.simulation_laws.controls_fly.Goals as goal

pub returns : goal.returns
returns c = controls_fly c.tag_round_trip.ensures
