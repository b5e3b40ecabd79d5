use Rattle.std.proofs.Common.{◌≡◌, ℕ, ◌<◌, ◌==◌, true, false, take}
use Rattle.std.specs.Int.{bit_at}
use Rattle.exb_model.specs.declared.vlan.Kind.{Kind}
use Rattle.exb_model.specs.Tree.{by_depth, trunk}
use Rattle.exb_relay.specs.SendsBySource.{is_hearer}
use Rattle.exb_relay.proofs.HearersBelow.{among}
use Rattle.exb_relay.proofs.hearers_below.ways.Given as goal

-- the hearers at the bridge have their bits, and so have the trunks of the extenders so far
abbrev pub invariant-loop-extender : goal.invariant-loop-extender
invariant-loop-extender l = record {
  local : (kind : Kind) → (k : ℕ) → k < 64 → (bit_at l.ways k == 1) ≡ false → is_hearer l.hearers kind k ≡ false;
  hung : (n : ℕ) → among (take l.extender-index l.extender-items) n ≡ true → bit_at l.ways (trunk l.tree n) ≡ 1;
  order : l.extender-items ≡ by_depth l.tree;
}
