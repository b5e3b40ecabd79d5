use Rattle.exb_csp.proofs.Sessions.AskerLaws.{asks_spelled}
use Rattle.exb_csp.proofs.laws.asks_are_spelled.Goals as goal

pub returns : goal.returns
returns c = asks_spelled
