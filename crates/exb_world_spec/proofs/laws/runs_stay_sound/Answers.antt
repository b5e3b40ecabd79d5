use Rattle.exb_world_spec.proofs.SessionLaws.{runs_stay_sound}
use Rattle.exb_world_spec.proofs.laws.runs_stay_sound.Goals as goal

pub returns : goal.returns
returns c = runs_stay_sound c.tag_round_trip.ensures
