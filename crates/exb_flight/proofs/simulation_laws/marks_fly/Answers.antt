use Rattle.exb_flight.proofs.SimulatedTicks.{marks_fly}
use Rattle.exb_flight.proofs.simulation_laws.marks_fly.Goals as goal

pub returns : goal.returns
returns c = marks_fly
