use Rattle.exb_trace_spec.proofs.TraceTexts.{lines_read_back}
use Rattle.exb_trace_spec.proofs.laws.lines_read_back.Goals as goal

pub returns : goal.returns
returns c = lines_read_back
