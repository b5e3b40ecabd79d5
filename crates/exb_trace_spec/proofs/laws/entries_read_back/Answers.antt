use Rattle.exb_trace_spec.proofs.JournalLines.{entries_read_back}
use Rattle.exb_trace_spec.proofs.laws.entries_read_back.Goals as goal

pub returns : goal.returns
returns c = entries_read_back
