use Rattle.exb_trace_spec.proofs.JournalTexts.{journals_are_lines}
use Rattle.exb_trace_spec.proofs.laws.journals_are_lines.Goals as goal

pub returns : goal.returns
returns c = journals_are_lines
