use Rattle.exb_csp.proofs.Sessions.RunLaws.{are_spelled}
use Rattle.exb_csp.proofs.laws.messages_are_spelled.Goals as goal

pub returns : goal.returns
returns c = are_spelled
