use Rattle.exb_net_laws.proofs.Deliveries.{deliveries_end_soon}
use Rattle.exb_net_laws.proofs.laws.deliveries_end_soon.Goals as goal

pub returns : goal.returns
returns c = deliveries_end_soon c.queues_end_soon.ensures c.tag_round_trip.ensures c.sends_are_words.ensures c.sends_leave_as_flat.ensures c.steps_tell.ensures c.steps_stay_written.ensures
