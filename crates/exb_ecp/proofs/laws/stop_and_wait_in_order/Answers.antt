use Rattle.exb_ecp.proofs.LineLaws.{in_order}
use Rattle.exb_ecp.proofs.laws.stop_and_wait_in_order.Goals as goal

pub returns : goal.returns
returns c = in_order
