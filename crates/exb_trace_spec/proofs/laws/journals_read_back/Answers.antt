use Rattle.exb_trace_spec.proofs.JournalLines.{journals_read_back}
use Rattle.exb_trace_spec.proofs.laws.journals_read_back.Goals as goal

pub returns : goal.returns
returns c = journals_read_back
