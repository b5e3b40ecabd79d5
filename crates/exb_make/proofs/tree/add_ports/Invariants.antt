use Rattle.std.proofs.Common.{◌≡◌, ◌+◌, ◌-◌, ◌*◌, ◌++◌}
use Rattle.std.specs.List.{range_with_len}
use Rattle.exb_make.proofs.tree.add_ports.Given as goal

-- the ports so far
abbrev pub invariant-loop-place : goal.invariant-loop-place
invariant-loop-place l = l.ports.items ≡ l.fn.ports.items ++ range_with_len (64 * l.device + l.first) (l.place - l.first)
