use Rattle.exb_world_spec.proofs.SessionLaws.{steps_stay_sound}
use Rattle.exb_world_spec.proofs.laws.steps_stay_sound.Goals as goal

pub returns : goal.returns
returns c = steps_stay_sound c.tag_round_trip.ensures
