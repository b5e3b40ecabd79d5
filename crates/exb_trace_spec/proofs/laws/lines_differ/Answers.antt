use Rattle.exb_trace_spec.proofs.TraceTexts.{lines_differ}
use Rattle.exb_trace_spec.proofs.laws.lines_differ.Goals as goal

pub returns : goal.returns
returns c = lines_differ
