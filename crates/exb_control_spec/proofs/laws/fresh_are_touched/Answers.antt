use Rattle.exb_control_spec.proofs.Plans.CommandFreshSets.{fresh_are_touched}
use Rattle.exb_control_spec.proofs.laws.fresh_are_touched.Goals as goal

pub returns : goal.returns
returns c = fresh_are_touched
