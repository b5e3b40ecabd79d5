use Rattle.exb_trace_spec.proofs.UniqueTexts.{lines_are_written}
use Rattle.exb_trace_spec.proofs.laws.lines_are_written.Goals as goal

pub returns : goal.returns
returns c = lines_are_written
