use Rattle.std.proofs.Common.{take}
use Rattle.exb_net_file.specs.Wires.{are_joined}
use Rattle.exb_net_file.proofs.LoopTest.{AreLabels}
use Rattle.exb_net_file.proofs.wires.are_joined.Given as goal

abbrev pub invariant-loop-wire : goal.invariant-loop-wire
invariant-loop-wire l = AreLabels l.labels (are_joined (take l.wire-index l.wires))
