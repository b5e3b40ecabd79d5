use Rattle.exb_lldp.proofs.TrailingBytes.{announced-longer}
use Rattle.exb_lldp.proofs.laws.bytes_after_the_end_are_ignored.Goals as goal

pub returns : goal.returns
returns c = announced-longer
