use Rattle.exb_trace_spec.proofs.JournalLines.{journals_differ}
use Rattle.exb_trace_spec.proofs.laws.journals_differ.Goals as goal

pub returns : goal.returns
returns c = journals_differ
