use Rattle.exb_world_laws.proofs.Runs.Settling.{runs_are_ready}
use Rattle.exb_world_laws.proofs.laws.runs.runs_are_ready.Goals as goal

pub returns : goal.returns
returns c = runs_are_ready c.tag_round_trip.ensures c.sends_are_words.ensures c.sends_leave_as_flat.ensures c.steps_tell.ensures c.steps_stay_written.ensures
