use Rattle.std.proofs.Common.{◌≡◌, ◌++◌, take, drop}
use Rattle.exb_trace_spec.specs.Traversals.{until_next}
use Rattle.exb_audit.proofs.rule5_relays.until_next.Given as goal

abbrev pub invariant-loop-i : goal.invariant-loop-i
invariant-loop-i l = take l.i l.lines ++ until_next (drop l.i l.lines) ≡ until_next l.lines
