use Rattle.std.proofs.Common.{◌≡◌, ℕ, slice_index, take, length}
use Rattle.exb_model.specs.Tree.{by_depth}
use Rattle.exb_relay.specs.SendsBySource.{is_hearer}
use Rattle.exb_relay.proofs.HearersBelow.{word_below}
use Rattle.exb_relay.proofs.hearers_below.below.Given as goal

abbrev pub invariant-loop-extender : goal.invariant-loop-extender
invariant-loop-extender l = record {
  words : (n : ℕ) → slice_index l.words n ≡ word_below l.tree l.bridge_port (is_hearer l.hearers l.kind) (take l.extender-index l.extender-items) n;
  order : l.extender-items ≡ by_depth l.tree;
  sized : length l.words ≡ 65;
}
