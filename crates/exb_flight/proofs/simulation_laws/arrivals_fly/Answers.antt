use Rattle.exb_flight.proofs.SimulatedArrivals.{arrivals_fly}
use Rattle.exb_flight.proofs.simulation_laws.arrivals_fly.Goals as goal

pub returns : goal.returns
returns c = arrivals_fly c.tag_round_trip.ensures c.sends_are_words.ensures c.sends_leave_as_flat.ensures
