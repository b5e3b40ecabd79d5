use Rattle.exb_flight.proofs.KeptPromises.{stood_promises}
use Rattle.exb_flight.proofs.simulation_laws.stood_promises.Goals as goal

pub returns : goal.returns
returns c = stood_promises
