use Rattle.exb_world_laws.proofs.Runs.Crossings.{leaves_may_cross}
use Rattle.exb_world_laws.proofs.laws.runs.leaves_may_cross.Goals as goal

pub returns : goal.returns
returns c = leaves_may_cross c.tag_round_trip.ensures c.sends_are_words.ensures c.sends_leave_as_flat.ensures c.steps_tell.ensures c.steps_stay_written.ensures
