use Rattle.exb_control_spec.proofs.Plans.SetUses.{uses_change}
use Rattle.exb_control_spec.proofs.laws.uses_change.Goals as goal

pub returns : goal.returns
returns c = uses_change
