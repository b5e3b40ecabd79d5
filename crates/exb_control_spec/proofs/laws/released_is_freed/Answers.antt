use Rattle.exb_control_spec.proofs.ReleasedNumbers.{released_is_freed}
use Rattle.exb_control_spec.proofs.laws.released_is_freed.Goals as goal

pub returns : goal.returns
returns c = released_is_freed
