use Rattle.exb_control_spec.proofs.Plans.SpaceSets.{sets_of_each}
use Rattle.exb_control_spec.proofs.laws.sets_of_each.Goals as goal

pub returns : goal.returns
returns c = sets_of_each
