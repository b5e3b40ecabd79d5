use Rattle.exb_world_laws.proofs.InvariantSteps.{step_kept}
use Rattle.exb_world_laws.proofs.laws.steps.steps_keep.Goals as goal

pub returns : goal.returns
returns c = step_kept c.tag_round_trip.ensures c.sends_are_words.ensures c.sends_leave_as_flat.ensures c.steps_tell.ensures
