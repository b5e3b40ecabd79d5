use Rattle.exb_flight.proofs.WorldPromises.{worlds_promise}
use Rattle.exb_flight.proofs.simulation_laws.worlds_promise.Goals as goal

pub returns : goal.returns
returns c = worlds_promise c.tag_round_trip.ensures c.sends_are_words.ensures c.sends_leave_as_flat.ensures
