use Rattle.exb_csp.proofs.Sessions.RunLaws.{are_numbered}
use Rattle.exb_csp.proofs.laws.messages_are_numbered.Goals as goal

pub returns : goal.returns
returns c = are_numbered
