use Rattle.exb_csp.proofs.RoundTrip.{message_again}
use Rattle.exb_csp.proofs.laws.written_is_read.Goals as goal

pub returns : goal.returns
returns c = message_again
