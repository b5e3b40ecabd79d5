use Rattle.std.proofs.Common.{◌≡◌, drop}
use Rattle.std.specs.List.{list_any}
use Rattle.exb_topology.specs.Checks.{overlap}
use Rattle.exb_topology.proofs.checks.overlaps.Given as goal

abbrev pub invariant-loop-other : goal.invariant-loop-other
invariant-loop-other l = list_any (overlap l.vlan) (drop l.other-index l.before) ≡ list_any (overlap l.vlan) l.before
