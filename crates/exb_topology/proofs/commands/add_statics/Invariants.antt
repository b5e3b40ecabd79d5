use Rattle.std.proofs.Common.{◌≡◌, ◌++◌, drop, map}
use Rattle.exb_topology.specs.CommandViews.{seen}
use Rattle.exb_topology.specs.Topologies.{static_start}
use Rattle.exb_topology.proofs.commands.add_statics.Given as goal

abbrev pub invariant-loop-entry : goal.invariant-loop-entry
invariant-loop-entry l = map seen l.start ++ map (static_start l.tree) (drop l.entry-index l.statics) ≡ map seen l.initial.start ++ map (static_start l.tree) l.statics
