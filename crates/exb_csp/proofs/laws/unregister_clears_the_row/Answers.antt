use Rattle.exb_csp.proofs.ExecutionLaws.{unregister_clears}
use Rattle.exb_csp.proofs.laws.unregister_clears_the_row.Goals as goal

pub returns : goal.returns
returns c = unregister_clears
