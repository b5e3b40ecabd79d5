use Rattle.exb_world_laws.proofs.Runs.Settling.{settles}
use Rattle.exb_world_laws.proofs.laws.runs.settles.Goals as goal

pub returns : goal.returns
returns c = settles c.tag_round_trip.ensures c.sends_are_words.ensures c.sends_leave_as_flat.ensures c.steps_tell.ensures c.steps_stay_written.ensures
