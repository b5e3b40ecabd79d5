use Rattle.exb_flight.proofs.SimulatedDescents.{descents_fly}
use Rattle.exb_flight.proofs.simulation_laws.descents_fly.Goals as goal

pub returns : goal.returns
returns c = descents_fly
