use Rattle.std.proofs.Common.{◌≡◌, drop}
use Rattle.toml.specs.View.{items_view}
use Rattle.exb_toml_keys.specs.Keys.{are_texts}
use Rattle.exb_toml_keys.proofs.values.are_texts.Given as goal

abbrev pub invariant-loop-item : goal.invariant-loop-item
invariant-loop-item l = are_texts (items_view (drop l.item-index l.items)) ≡ are_texts (items_view l.items)
