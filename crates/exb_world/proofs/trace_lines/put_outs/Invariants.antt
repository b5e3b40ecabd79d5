use Rattle.std.proofs.Common.{◌≡◌, ◌++◌}
use Rattle.exb_world.proofs.trace_lines.put_outs.Given as goal

abbrev pub invariant-loop-line : goal.invariant-loop-line
invariant-loop-line l = l.to ≡ l.initial.to ++ l.yielded
