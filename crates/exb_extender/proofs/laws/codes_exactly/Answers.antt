use Rattle.exb_extender.proofs.CodeLemmas.{codes_exactly}
use Rattle.exb_extender.proofs.laws.codes_exactly.Goals as goal

pub returns : goal.returns
returns c = codes_exactly
