use Rattle.exb_trace_laws.proofs.JournalHistories.{inputs_have_one_history}
use Rattle.exb_trace_laws.proofs.laws.inputs_have_one_history.Goals as goal

pub returns : goal.returns
returns c = inputs_have_one_history
