use Rattle.exb_control_spec.proofs.Plans.RowsCover.{rows_lie}
use Rattle.exb_control_spec.proofs.laws.rows_lie.Goals as goal

pub returns : goal.returns
returns c = rows_lie
