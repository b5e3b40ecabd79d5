use Rattle.exb_control_spec.proofs.Plans.HeldAfterPlan.{held_goes_on}
use Rattle.exb_control_spec.proofs.laws.held_goes_on.Goals as goal

pub returns : goal.returns
returns c = held_goes_on
