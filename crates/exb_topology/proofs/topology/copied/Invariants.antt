use Rattle.std.proofs.Common.{◌≡◌, take}
use Rattle.exb_topology.proofs.topology.copied.Given as goal

abbrev pub invariant-loop-extender : goal.invariant-loop-extender
invariant-loop-extender l = l.copy ≡ take l.extender-index l.extenders
