use Rattle.exb_flight.proofs.SimulatedBeats.{beats_fly}
use Rattle.exb_flight.proofs.simulation_laws.beats_fly.Goals as goal

pub returns : goal.returns
returns c = beats_fly c.tag_round_trip.ensures
