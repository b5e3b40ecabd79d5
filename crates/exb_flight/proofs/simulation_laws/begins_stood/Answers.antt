use Rattle.exb_flight.proofs.KeptPromises.{begins_stood}
use Rattle.exb_flight.proofs.simulation_laws.begins_stood.Goals as goal

pub returns : goal.returns
returns c = begins_stood
