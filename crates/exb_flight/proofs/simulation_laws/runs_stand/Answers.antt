use Rattle.exb_flight.proofs.WorldPromises.{all_stand}
use Rattle.exb_flight.proofs.simulation_laws.runs_stand.Goals as goal

pub returns : goal.returns
returns c = all_stand c.tag_round_trip.ensures c.sends_are_words.ensures c.sends_leave_as_flat.ensures
