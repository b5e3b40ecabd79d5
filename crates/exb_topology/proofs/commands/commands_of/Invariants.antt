use Rattle.std.proofs.Common.{◌≡◌, take, map}
use Rattle.exb_topology.specs.CommandViews.{timed_view}
use Rattle.exb_topology.specs.Topologies.{command_seen}
use Rattle.exb_topology.proofs.commands.commands_of.Given as goal

abbrev pub invariant-loop-command : goal.invariant-loop-command
invariant-loop-command l = map timed_view l.all ≡ map (command_seen l.tree) (take l.command-index l.commands)
