use Rattle.std.proofs.Common.{◌≡◌, ◌==◌, drop}
use Rattle.std.specs.List.{list_any}
use Rattle.exb_net_file.proofs.wires.is_captured.Given as goal

abbrev pub invariant-loop-capture : goal.invariant-loop-capture
invariant-loop-capture l = list_any (λ x. x.port == l.port) (drop l.capture-index l.member.topology.captures) ≡ list_any (λ x. x.port == l.port) l.member.topology.captures
