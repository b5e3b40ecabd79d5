use Rattle.exb_extender.proofs.CodeLemmas.{many_codes}
use Rattle.exb_extender.proofs.laws.many_codes.Goals as goal

pub returns : goal.returns
returns c = many_codes
