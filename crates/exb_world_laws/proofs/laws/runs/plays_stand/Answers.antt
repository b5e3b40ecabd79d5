use Rattle.exb_world_laws.proofs.Runs.OneBridge.{plays_stand}
use Rattle.exb_world_laws.proofs.laws.runs.plays_stand.Goals as goal

pub returns : goal.returns
returns c = plays_stand c.tag_round_trip.ensures c.sends_are_words.ensures c.sends_leave_as_flat.ensures c.steps_tell.ensures c.steps_stay_written.ensures
