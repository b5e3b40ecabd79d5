use Rattle.exb_world_laws.proofs.SegmentHistories.{runs_play_legally}
use Rattle.exb_world_laws.proofs.laws.steps.runs_play_legally.Goals as goal

pub returns : goal.returns
returns c = runs_play_legally c.tag_round_trip.ensures c.sends_are_words.ensures c.sends_leave_as_flat.ensures c.steps_tell.ensures c.steps_stay_written.ensures
