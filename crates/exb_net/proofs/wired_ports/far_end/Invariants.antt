use Rattle.std.proofs.Common.{◌≡◌, drop}
use Rattle.exb_net_spec.specs.Nets.{far_end}
use Rattle.exb_net.proofs.wired_ports.far_end.Given as goal

-- What is left of the wires leads to the same end.
abbrev pub invariant-loop-wire : goal.invariant-loop-wire
invariant-loop-wire l = far_end (drop l.wire-index l.wires) l.bridge l.port ≡ far_end l.wires l.bridge l.port
