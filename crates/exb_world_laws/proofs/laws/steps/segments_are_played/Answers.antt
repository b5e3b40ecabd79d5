use Rattle.exb_world_laws.proofs.SettledHistories.{segments_are_played}
use Rattle.exb_world_laws.proofs.laws.steps.segments_are_played.Goals as goal

pub returns : goal.returns
returns c = segments_are_played c.tag_round_trip.ensures c.sends_are_words.ensures c.sends_leave_as_flat.ensures c.steps_tell.ensures
