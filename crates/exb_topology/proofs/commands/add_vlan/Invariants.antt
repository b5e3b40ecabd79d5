use Rattle.std.proofs.Common.{◌≡◌, ◌++◌, ◌-◌, ◌+◌, map}
use Rattle.exb_topology.specs.CommandViews.{seen}
use Rattle.exb_topology.specs.Topologies.{vlan_start}
use Rattle.exb_topology.proofs.CommandLists.{vlan_range}
use Rattle.exb_topology.proofs.commands.add_vlan.Given as goal

abbrev pub invariant-loop-number : goal.invariant-loop-number
invariant-loop-number l = map seen l.start ++ vlan_range l.tree l.vlan l.number (l.vlan.last + 1 - l.number) ≡ map seen l.initial.start ++ vlan_start l.tree l.vlan
