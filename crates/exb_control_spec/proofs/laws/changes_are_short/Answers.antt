use Rattle.exb_control_spec.proofs.RequestCounts.{changes_are_short}
use Rattle.exb_control_spec.proofs.laws.changes_are_short.Goals as goal

pub returns : goal.returns
returns c = changes_are_short
