use Rattle.exb_flight.proofs.SimulatedTicks.{losses_fly}
use Rattle.exb_flight.proofs.simulation_laws.losses_fly.Goals as goal

pub returns : goal.returns
returns c = losses_fly
