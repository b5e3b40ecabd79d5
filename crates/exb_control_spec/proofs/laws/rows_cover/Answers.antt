use Rattle.exb_control_spec.proofs.Plans.RowsCover.{rows_cover}
use Rattle.exb_control_spec.proofs.laws.rows_cover.Goals as goal

pub returns : goal.returns
returns c = rows_cover
