use Rattle.std.proofs.Common.{◌≡◌, drop}
use Rattle.exb_net_file.specs.Wires.{is_taken}
use Rattle.exb_net_file.proofs.wires.is_taken.Given as goal

abbrev pub invariant-loop-other : goal.invariant-loop-other
invariant-loop-other l = is_taken (drop l.other-index l.ends) l.end.bridge l.end.port ≡ is_taken l.ends l.end.bridge l.end.port
