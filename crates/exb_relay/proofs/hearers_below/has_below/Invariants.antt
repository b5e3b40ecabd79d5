use Rattle.std.proofs.Common.{◌≡◌, ℕ, true, take}
use Rattle.exb_model.specs.Tree.{by_depth}
use Rattle.exb_relay.specs.SendsBySource.{is_hearer}
use Rattle.exb_relay.proofs.HearersBelow.{among, mask_below}
use Rattle.exb_relay.proofs.hearers_below.has_below.Given as goal

-- no extender so far has one
abbrev pub invariant-loop-extender : goal.invariant-loop-extender
invariant-loop-extender l = record {
  none : (n : ℕ) → among (take l.extender-index l.extender-items) n ≡ true → mask_below l.tree l.bridge_port (is_hearer l.hearers l.kind) n ≡ 0;
  order : l.extender-items ≡ by_depth l.tree;
}
