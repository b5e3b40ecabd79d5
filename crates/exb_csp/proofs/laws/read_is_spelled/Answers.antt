use Rattle.exb_csp.proofs.UniqueEncoding.{message_read}
use Rattle.exb_csp.proofs.laws.read_is_spelled.Goals as goal

pub returns : goal.returns
returns c = message_read
