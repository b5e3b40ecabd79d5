use Rattle.exb_csp.proofs.RoundTrip.{are_short}
use Rattle.exb_csp.proofs.laws.messages_are_short.Goals as goal

pub returns : goal.returns
returns c = are_short
