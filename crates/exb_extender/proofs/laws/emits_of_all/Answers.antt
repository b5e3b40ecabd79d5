use Rattle.exb_extender.proofs.AllTablesLemmas.{emits_of_all}
use Rattle.exb_extender.proofs.laws.emits_of_all.Goals as goal

pub returns : goal.returns
returns c = emits_of_all
