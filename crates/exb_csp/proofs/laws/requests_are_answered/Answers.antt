use Rattle.exb_csp.proofs.Sessions.RunLaws.{are_answered}
use Rattle.exb_csp.proofs.laws.requests_are_answered.Goals as goal

pub returns : goal.returns
returns c = are_answered
