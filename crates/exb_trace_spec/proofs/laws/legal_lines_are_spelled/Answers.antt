use Rattle.exb_trace_spec.proofs.WritableLines.{legal_lines_are_spelled}
use Rattle.exb_trace_spec.proofs.laws.legal_lines_are_spelled.Goals as goal

pub returns : goal.returns
returns c = legal_lines_are_spelled
