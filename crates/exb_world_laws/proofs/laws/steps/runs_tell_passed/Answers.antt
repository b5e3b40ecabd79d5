use Rattle.exb_world_laws.proofs.PassedFrames.{runs_tell_passed}
use Rattle.exb_world_laws.proofs.laws.steps.runs_tell_passed.Goals as goal

pub returns : goal.returns
returns c = runs_tell_passed c.tag_round_trip.ensures c.sends_are_words.ensures c.sends_leave_as_flat.ensures c.steps_tell.ensures
