use Rattle.exb_world_spec.proofs.Setups.{setups_begin_sound}
use Rattle.exb_world_spec.proofs.laws.setups_begin_sound.Goals as goal

pub returns : goal.returns
returns c = setups_begin_sound
