use Rattle.exb_topology_tables.specs.Elements.{static_item}
use Rattle.exb_toml_keys.specs.Keys.{each, same_state}
use Rattle.toml.specs.View.{items_view}
use Rattle.exb_toml_keys.proofs.ItemLoops.{So}
use Rattle.exb_topology_tables.proofs.elements.static_rows.Given as goal

abbrev pub invariant-loop-index : goal.invariant-loop-index
invariant-loop-index l = So static_item same_state l.items l.index tt l.rows (each static_item same_state tt 0 (items_view l.items))
