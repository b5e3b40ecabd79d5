use Rattle.exb_ecp.proofs.RoundTrip.{is_read_again}
use Rattle.exb_ecp.proofs.laws.written_is_read.Goals as goal

pub returns : goal.returns
returns c = is_read_again
