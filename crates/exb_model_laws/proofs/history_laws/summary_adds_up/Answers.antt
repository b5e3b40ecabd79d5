use Rattle.exb_model_laws.proofs.SummaryCounts.{summary_adds_up}
use Rattle.exb_model_laws.proofs.history_laws.summary_adds_up.Goals as goal

pub returns : goal.returns
returns c = summary_adds_up
