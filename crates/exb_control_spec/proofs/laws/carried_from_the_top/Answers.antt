use Rattle.exb_control_spec.proofs.Plans.CarriedFromTop.{carried_from_top}
use Rattle.exb_control_spec.proofs.laws.carried_from_the_top.Goals as goal

pub returns : goal.returns
returns c = carried_from_top
