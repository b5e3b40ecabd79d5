use Rattle.std.proofs.Common.{◌≡◌, ◌++◌, drop, map}
use Rattle.std.specs.List.{flat_map}
use Rattle.exb_topology.specs.CommandViews.{seen}
use Rattle.exb_topology.specs.Topologies.{vlan_start}
use Rattle.exb_topology.proofs.commands.add_each_vlan.Given as goal

abbrev pub invariant-loop-vlan : goal.invariant-loop-vlan
invariant-loop-vlan l = map seen l.start ++ flat_map (vlan_start l.tree) (drop l.vlan-index l.vlans) ≡ map seen l.initial.start ++ flat_map (vlan_start l.tree) l.vlans
