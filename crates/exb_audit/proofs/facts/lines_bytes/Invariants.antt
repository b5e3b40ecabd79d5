use Rattle.std.proofs.Common.{All, take}
use Rattle.exb_trace_spec.specs.WritableLines.{HasBytes}
use Rattle.exb_audit.proofs.facts.lines_bytes.Given as goal

abbrev pub invariant-loop-line : goal.invariant-loop-line
invariant-loop-line l = All HasBytes (take l.line-index l.lines)
