use Rattle.exb_topology_tables.specs.Elements.{extender_item}
use Rattle.std.specs.List.{All}
use Rattle.exb_model.specs.Setup.{InRange}
use Rattle.exb_toml_keys.specs.Keys.{each, same_state}
use Rattle.toml.specs.View.{items_view}
use Rattle.exb_toml_keys.proofs.ItemLoops.{So}
use Rattle.exb_topology_tables.proofs.elements.extender_rows.Given as goal

abbrev pub invariant-loop-index : goal.invariant-loop-index
invariant-loop-index l = record {
  so_far : So extender_item same_state l.items l.index tt l.rows (each extender_item same_state tt 0 (items_view l.items));
  range : All InRange l.rows;
}
