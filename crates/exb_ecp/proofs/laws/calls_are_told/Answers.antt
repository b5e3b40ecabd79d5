use Rattle.exb_ecp.proofs.CallLaws.{told}
use Rattle.exb_ecp.proofs.laws.calls_are_told.Goals as goal

pub returns : goal.returns
returns c = told
