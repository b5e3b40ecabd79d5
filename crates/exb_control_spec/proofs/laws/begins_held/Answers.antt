use Rattle.exb_control_spec.proofs.Plans.NoPortsPresent.{begins_held}
use Rattle.exb_control_spec.proofs.laws.begins_held.Goals as goal

pub returns : goal.returns
returns c = begins_held
