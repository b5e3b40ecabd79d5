use Rattle.exb_world_laws.proofs.Runs.EventCounts.{runs_are_few}
use Rattle.exb_world_laws.proofs.laws.runs.runs_are_few.Goals as goal

pub returns : goal.returns
returns c = runs_are_few c.tag_round_trip.ensures c.sends_are_words.ensures c.sends_leave_as_flat.ensures c.steps_tell.ensures c.steps_stay_written.ensures c.settled_is_orderly.ensures
