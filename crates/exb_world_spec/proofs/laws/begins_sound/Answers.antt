use Rattle.exb_world_spec.proofs.SessionLaws.{begins_sound}
use Rattle.exb_world_spec.proofs.laws.begins_sound.Goals as goal

pub returns : goal.returns
returns c = begins_sound
