use Rattle.exb_trace_spec.proofs.UniqueTexts.{entries_are_written}
use Rattle.exb_trace_spec.proofs.laws.entries_are_written.Goals as goal

pub returns : goal.returns
returns c = entries_are_written
