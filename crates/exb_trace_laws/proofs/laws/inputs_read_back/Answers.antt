use Rattle.exb_trace_laws.proofs.JournalHistories.{inputs_read_back}
use Rattle.exb_trace_laws.proofs.laws.inputs_read_back.Goals as goal

pub returns : goal.returns
returns c = inputs_read_back
