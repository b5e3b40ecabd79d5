use Rattle.exb_flight.proofs.SimulatedTicks.{ticks_fly}
use Rattle.exb_flight.proofs.simulation_laws.ticks_fly.Goals as goal

pub returns : goal.returns
returns c = ticks_fly
