use Rattle.std.proofs.Common.{◌≡◌, drop}
use Rattle.exb_topology.specs.Trees.{ports_of}
use Rattle.exb_topology.proofs.trees.ports_of.Given as goal

abbrev pub invariant-loop-extender : goal.invariant-loop-extender
invariant-loop-extender l = ports_of (drop l.extender-index l.extenders) l.number ≡ ports_of l.extenders l.number
