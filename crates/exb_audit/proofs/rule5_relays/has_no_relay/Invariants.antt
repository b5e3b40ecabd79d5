use Rattle.std.proofs.Common.{◌≡◌, drop}
use Rattle.exb_trace_spec.specs.TraceChecker.{says_none}
use Rattle.exb_trace_spec.specs.Rule5Relays.{relays}
use Rattle.exb_audit.proofs.rule5_relays.has_no_relay.Given as goal

abbrev pub invariant-loop-line : goal.invariant-loop-line
invariant-loop-line l = says_none (relays (drop l.line-index l.lines)) ≡ says_none (relays l.lines)
