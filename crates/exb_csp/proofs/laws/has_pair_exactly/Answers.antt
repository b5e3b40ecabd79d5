use Rattle.exb_csp.proofs.ExecutionLaws.{has_pair-exact}
use Rattle.exb_csp.proofs.laws.has_pair_exactly.Goals as goal

pub returns : goal.returns
returns c = has_pair-exact
