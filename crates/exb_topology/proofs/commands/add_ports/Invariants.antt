use Rattle.std.proofs.Common.{◌≡◌, ◌++◌, drop, map}
use Rattle.std.specs.List.{flat_map}
use Rattle.exb_topology.specs.CommandViews.{seen}
use Rattle.exb_topology.specs.Topologies.{port_start}
use Rattle.exb_topology.proofs.commands.add_ports.Given as goal

abbrev pub invariant-loop-port : goal.invariant-loop-port
invariant-loop-port l = map seen l.start ++ flat_map port_start (drop l.port-index l.ports) ≡ map seen l.initial.start ++ flat_map port_start l.ports
