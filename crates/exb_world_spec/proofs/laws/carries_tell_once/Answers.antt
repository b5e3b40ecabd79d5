use Rattle.exb_world_spec.proofs.Stamps.{carries_tell_once}
use Rattle.exb_world_spec.proofs.laws.carries_tell_once.Goals as goal

pub returns : goal.returns
returns c = carries_tell_once
