use Rattle.std.proofs.Common.{◌≡◌, drop}
use Rattle.toml.specs.View.{items_view}
use Rattle.exb_toml_keys.specs.Keys.{words_of}
use Rattle.exb_toml_keys.proofs.PortLists.{after_these}
use Rattle.exb_toml_keys.proofs.keys.words_in.Given as goal

abbrev pub invariant-loop-item : goal.invariant-loop-item
invariant-loop-item l = after_these l.all (words_of (items_view (drop l.item-index l.items))) ≡ words_of (items_view l.items)
