use Rattle.exb_lldp.proofs.RoundTrip.{announced-spelling}
use Rattle.exb_lldp.proofs.laws.written_is_read.Goals as goal

pub returns : goal.returns
returns c = announced-spelling
