use Rattle.std.proofs.Common.{◌≡◌, map, filter}
use Rattle.exb_model.specs.Ports.{below}
use Rattle.exb_model.specs.Tree.{is_external}
use Rattle.exb_journal.specs.FileNames.{capture_name}
use Rattle.exb_topology.proofs.outputs.capture_names.Given as goal

abbrev pub invariant-loop-number : goal.invariant-loop-number
invariant-loop-number l = l.names ≡ map (capture_name l.prefix) (filter (is_external l.tree) (below l.number))
