use Rattle.std.proofs.Common.{◌≡◌, drop}
use Rattle.exb_trace_spec.specs.Rule5Relays.{entries}
use Rattle.exb_audit.proofs.rule5_relays.first_entry.Given as goal

abbrev pub invariant-loop-i : goal.invariant-loop-i
invariant-loop-i l = entries (drop l.i l.lines) ≡ entries l.lines
