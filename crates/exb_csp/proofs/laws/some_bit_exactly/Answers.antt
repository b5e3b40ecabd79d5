use Rattle.exb_csp.proofs.ExecutionLaws.{some_bit}
use Rattle.exb_csp.proofs.laws.some_bit_exactly.Goals as goal

pub returns : goal.returns
returns c = some_bit
