use Rattle.exb_control_spec.proofs.Plans.CommandGoneGroups.{gone_are_touched}
use Rattle.exb_control_spec.proofs.laws.gone_are_touched.Goals as goal

pub returns : goal.returns
returns c = gone_are_touched
