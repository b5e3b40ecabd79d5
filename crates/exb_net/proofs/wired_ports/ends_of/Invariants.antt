use Rattle.std.proofs.Common.{◌≡◌, filter}
use Rattle.exb_model.specs.Ports.{below}
use Rattle.exb_model.specs.Tree.{is_external}
use Rattle.exb_net.specs.WiredPorts.{ends_over}
use Rattle.exb_net.proofs.wired_ports.ends_of.Given as goal

-- These are those among the ports so far.
abbrev pub invariant-loop-number : goal.invariant-loop-number
invariant-loop-number l = l.ends.items ≡ ends_over l.wires l.bridge (λ q. 1) (filter (is_external l.tree) (below l.number))
