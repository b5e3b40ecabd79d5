use Rattle.exb_net_laws.proofs.EventCounts.{events_add_one}
use Rattle.exb_net_laws.proofs.laws.events_add_one.Goals as goal

pub returns : goal.returns
returns c = events_add_one c.queues_end_soon.ensures c.tag_round_trip.ensures c.sends_are_words.ensures c.sends_leave_as_flat.ensures c.steps_tell.ensures c.steps_stay_written.ensures
