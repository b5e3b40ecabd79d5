use Rattle.exb_control_spec.proofs.Plans.GroupsInUse.{used_are_sets}
use Rattle.exb_control_spec.proofs.laws.used_are_sets.Goals as goal

pub returns : goal.returns
returns c = used_are_sets
