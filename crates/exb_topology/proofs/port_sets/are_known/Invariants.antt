use Rattle.std.proofs.Common.{◌≡◌, drop}
use Rattle.std.specs.List.{list_all}
use Rattle.exb_topology.specs.Checks.{is_known}
use Rattle.exb_topology.proofs.port_sets.are_known.Given as goal

abbrev pub invariant-loop-word : goal.invariant-loop-word
invariant-loop-word l = list_all (is_known l.tree) (drop l.word-index l.words) ≡ list_all (is_known l.tree) l.words
