use Rattle.exb_control_spec.proofs.Runs.StrayMessages.{old_are_stray}
use Rattle.exb_control_spec.proofs.laws.old_are_stray.Goals as goal

pub returns : goal.returns
returns c = old_are_stray
