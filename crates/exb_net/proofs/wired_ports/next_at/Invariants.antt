use Rattle.std.proofs.Common.{◌≡◌, drop}
use Rattle.exb_net.specs.WiredPorts.{next_in}
use Rattle.exb_net.proofs.wired_ports.next_at.Given as goal

-- It is the index in what is left.
abbrev pub invariant-loop-end : goal.invariant-loop-end
invariant-loop-end l = next_in (drop l.end-index l.ends) l.port ≡ next_in l.ends l.port
