use Rattle.exb_net_file.specs.Elements.{wire_item}
use Rattle.exb_toml_keys.specs.Keys.{each, same_state}
use Rattle.toml.specs.View.{items_view}
use Rattle.exb_toml_keys.proofs.ItemLoops.{So}
use Rattle.exb_net_file.proofs.elements.wire_rows.Given as goal

abbrev pub invariant-loop-index : goal.invariant-loop-index
invariant-loop-index l = So wire_item same_state l.items l.index tt l.rows (each wire_item same_state tt 0 (items_view l.items))
