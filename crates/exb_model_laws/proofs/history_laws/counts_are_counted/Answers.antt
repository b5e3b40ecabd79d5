use Rattle.exb_model_laws.proofs.HistoryCounts.{counts-apart, counts-sorted}
use Rattle.exb_model_laws.proofs.history_laws.counts_are_counted.Goals as goal

pub returns-clause-all : goal.returns-clause-all
returns-clause-all c = counts-sorted

pub returns-clause-parts : goal.returns-clause-parts
returns-clause-parts c = counts-apart
