use Rattle.exb_world_laws.proofs.OneBridge.{runs_stand}
use Rattle.exb_world_laws.proofs.laws.steps.runs_stand.Goals as goal

pub returns : goal.returns
returns c = runs_stand c.tag_round_trip.ensures c.sends_are_words.ensures c.sends_leave_as_flat.ensures c.steps_tell.ensures
