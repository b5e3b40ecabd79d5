use Rattle.std.proofs.Common.{◌≡◌, ℕ, Some, drop}
use Rattle.exb_trace_spec.specs.TraceChecker.{through, watch_line}
use Rattle.exb_audit.specs.Rule2Extenders.{watch_of, HasPorts}
use Rattle.exb_audit.proofs.rule2_extenders.follow_all.Given as goal

-- what the machine comes to is what it comes to from here
abbrev pub invariant-loop-line : goal.invariant-loop-line
invariant-loop-line l = record {
  whole : through (watch_line l.number) (Some (watch_of l.watcher)) (drop l.line-index l.trace) ≡ through (watch_line l.number) (Some (watch_of l.initial.watcher)) l.trace;
  ports : (ports : ℕ) → HasPorts ports l.initial.watcher → HasPorts ports l.watcher;
}
