use Rattle.exb_trace_spec.proofs.TraceTexts.{traces_read_back}
use Rattle.exb_trace_spec.proofs.laws.traces_read_back.Goals as goal

pub returns : goal.returns
returns c = traces_read_back
