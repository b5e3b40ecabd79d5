use Rattle.exb_world_laws.proofs.OneEvent.{events_go_alone}
use Rattle.exb_world_laws.proofs.laws.steps.events_go_alone.Goals as goal

pub returns : goal.returns
returns c = events_go_alone c.tag_round_trip.ensures c.sends_are_words.ensures c.sends_leave_as_flat.ensures c.steps_tell.ensures
