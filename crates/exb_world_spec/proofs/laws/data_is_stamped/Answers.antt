use Rattle.exb_world_spec.proofs.Stamps.{data_is_stamped}
use Rattle.exb_world_spec.proofs.laws.data_is_stamped.Goals as goal

pub returns : goal.returns
returns c = data_is_stamped
