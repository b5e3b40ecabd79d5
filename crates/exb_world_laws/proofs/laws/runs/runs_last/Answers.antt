use Rattle.exb_world_laws.proofs.Runs.OneBridge.{runs_last}
use Rattle.exb_world_laws.proofs.laws.runs.runs_last.Goals as goal

pub returns : goal.returns
returns c = runs_last c.tag_round_trip.ensures c.sends_are_words.ensures c.sends_leave_as_flat.ensures c.steps_tell.ensures c.steps_stay_written.ensures
