use Rattle.exb_csp.proofs.Sessions.RunLaws.{each_once}
use Rattle.exb_csp.proofs.laws.each_request_once.Goals as goal

pub returns : goal.returns
returns c = each_once
