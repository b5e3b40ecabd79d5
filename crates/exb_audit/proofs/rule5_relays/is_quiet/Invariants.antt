use Rattle.std.proofs.Common.{◌≡◌, drop}
use Rattle.std.specs.List.{list_all}
use Rattle.exb_trace_spec.specs.TraceChecker.{no_data}
use Rattle.exb_audit.proofs.rule5_relays.is_quiet.Given as goal

abbrev pub invariant-loop-line : goal.invariant-loop-line
invariant-loop-line l = list_all (no_data l.tree) (drop l.line-index l.lines) ≡ list_all (no_data l.tree) l.lines
