use Rattle.exb_world_laws.proofs.OneBridgeSteps.{runs_leave_standing}
use Rattle.exb_world_laws.proofs.laws.steps.runs_leave_standing.Goals as goal

pub returns : goal.returns
returns c = runs_leave_standing c.tag_round_trip.ensures c.sends_are_words.ensures c.sends_leave_as_flat.ensures c.steps_tell.ensures
