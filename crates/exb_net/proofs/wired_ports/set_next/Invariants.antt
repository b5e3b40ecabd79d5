use Rattle.std.proofs.Common.{◌≡◌, ◌++◌, map, take, drop}
use Rattle.exb_net.specs.WiredPorts.{with_next}
use Rattle.exb_net.proofs.wired_ports.set_next.Given as goal

-- The front has the index.
abbrev pub invariant-loop-end : goal.invariant-loop-end
invariant-loop-end l = l.end-items ≡ map (with_next l.port l.next) (take l.end-index l.fn.ends.items) ++ drop l.end-index l.fn.ends.items
