use Rattle.exb_csp.proofs.ExecutionLaws.{register_sets}
use Rattle.exb_csp.proofs.laws.register_sets_the_mask.Goals as goal

pub returns : goal.returns
returns c = register_sets
