use Rattle.exb_world_laws.proofs.Runs.SegmentRuns.{runs_write_legally}
use Rattle.exb_world_laws.proofs.laws.runs.runs_write_legally.Goals as goal

pub returns : goal.returns
returns c = runs_write_legally c.tag_round_trip.ensures c.sends_are_words.ensures c.sends_leave_as_flat.ensures c.steps_tell.ensures c.steps_stay_written.ensures c.settled_is_orderly.ensures
