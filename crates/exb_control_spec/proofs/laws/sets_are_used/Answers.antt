use Rattle.exb_control_spec.proofs.Plans.SetUses.{sets_are_used}
use Rattle.exb_control_spec.proofs.laws.sets_are_used.Goals as goal

pub returns : goal.returns
returns c = sets_are_used
