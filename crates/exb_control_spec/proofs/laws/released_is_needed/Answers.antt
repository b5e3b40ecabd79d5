use Rattle.exb_control_spec.proofs.ReleasedNumbers.{released_is_needed}
use Rattle.exb_control_spec.proofs.laws.released_is_needed.Goals as goal

pub returns : goal.returns
returns c = released_is_needed
