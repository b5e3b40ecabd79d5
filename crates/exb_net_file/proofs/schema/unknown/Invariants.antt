use Rattle.std.proofs.Common.{◌≡◌}
use Rattle.toml.specs.View.{members_view}
use Rattle.exb_toml_keys.specs.Keys.{unknown}
use Rattle.exb_net_file.specs.Elements.{has_key}
use Rattle.exb_net_file.proofs.schema.unknown.Given as goal

abbrev pub invariant-loop-key : goal.invariant-loop-key
invariant-loop-key l =
    (goal.iterator-loop-key).can_next l.key-iterator × (goal.iterator-loop-key).is_finite l.key-iterator ×
    (unknown (has_key l.schema) (members_view l.key-iterator) ≡ unknown (has_key l.schema) (members_view l.table.entries))
