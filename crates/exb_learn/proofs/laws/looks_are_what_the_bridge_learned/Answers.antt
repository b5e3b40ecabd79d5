use Rattle.exb_learn.proofs.HistoryTables.{looks_learned}
use Rattle.exb_learn.proofs.laws.looks_are_what_the_bridge_learned.Goals as goal

pub returns : goal.returns
returns c = looks_learned
