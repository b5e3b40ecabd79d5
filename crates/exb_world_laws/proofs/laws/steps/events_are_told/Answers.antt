use Rattle.exb_world_laws.proofs.OneEvent.{events_are_told}
use Rattle.exb_world_laws.proofs.laws.steps.events_are_told.Goals as goal

pub returns : goal.returns
returns c = events_are_told c.tag_round_trip.ensures c.sends_are_words.ensures c.sends_leave_as_flat.ensures c.steps_tell.ensures
