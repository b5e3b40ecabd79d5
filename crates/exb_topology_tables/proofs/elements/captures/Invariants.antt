use Rattle.std.proofs.Common.{◌≡◌}
use Rattle.toml.specs.View.{members_view}
use Rattle.exb_topology_tables.specs.Elements.{captures}
use Rattle.exb_toml_keys.proofs.ItemLoops.{with_front}
use Rattle.exb_topology_tables.proofs.elements.captures.Given as goal

abbrev pub invariant-loop-key : goal.invariant-loop-key
invariant-loop-key l =
    (goal.iterator-loop-key).can_next l.key-iterator × (goal.iterator-loop-key).is_finite l.key-iterator ×
    (with_front l.all (captures (members_view l.key-iterator)) ≡ captures (members_view l.table.entries))
