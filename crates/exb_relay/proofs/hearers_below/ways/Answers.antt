use Rattle.std.proofs.Common.{◌≡◌, ℕ, ◌-◌, ◌*◌, ◌%◌, ◌^◌, ◌<◌, List, length, take, slice_index, bit_or, refl, ap, ◌∙◌, arith}
use Rattle.std.specs.Int.{bit_at}
use Rattle.std.proofs.Math.Seq.{take-length}
use Rattle.std.proofs.lemmas.Bool.{false≢true}
use Rattle.exb_model.specs.Tree.{trunk}
use Rattle.exb_relay.specs.SendsBySource.{is_hearer}
use Rattle.exb_relay.proofs.HearersBelow.{among, extender_at, each_next}
use Rattle.exb_relay.proofs.BridgePortBits.{at_bridge, bit_here, bit_stays, bit_was, none_deep}
use Rattle.exb_relay.proofs.hearers_below.ways.Goals as goal

pub loop-extender-init : goal.loop-extender-init
loop-extender-init c = record {
  local = at_bridge (is_hearer c.args.hearers.now) c.mask-tagged.result c.mask-untagged.result c.mask-tagged.ensures c.mask-untagged.ensures;
  hung = λ n known. absurd (false≢true known);
  order = c.order-extender-items.ensures;
}

pub trunk-requires : goal.trunk-requires
trunk-requires c =
    (extender_at c.args.tree.now c.order-extender-items.result.now c.loop-extender.extender-index c.loop-extender.invariant.order c.loop-extender-test.true c.is_tree.ensures).0

pub loop-extender-preserved : goal.loop-extender-preserved
loop-extender-preserved c =
    let t = c.args.tree.now in
    let items = c.order-extender-items.result.now in
    let i = c.loop-extender.extender-index in
    let value = c.trunk.ensures.value in
    let range = c.trunk.ensures.range in
    let ways = c.loop-extender.ways in
    let p = c.trunk.result - 1 in
    let low : p < 64 = omega (arith, value, range) in
    let after = bit_or ways (1 * 2 ^ p % 2 ^ 64) in
    let here : trunk t (slice_index items i) ≡ p = omega (arith, value) in
    record {
      local = λ kind k few none. c.loop-extender.invariant.local kind k few (bit_was ways p low k none);
      hung = each_next items i (slice_index items i) c.loop-extender-test.true refl (λ n. bit_at after (trunk t n) ≡ 1)
          (ap (bit_at after) here ∙ bit_here ways p low)
          (λ n known. bit_stays ways p low (trunk t n) (c.loop-extender.invariant.hung n known));
      order = c.loop-extender.invariant.order;
    }

pub returns-clause-deep : goal.returns-clause-deep
returns-clause-deep c k q none =
    let items = c.order-extender-items.result.now in
    let end : c.loop-extender.extender-index ≡ length items = omega arith in
    let all : take c.loop-extender.extender-index items ≡ items = rw end (take-length items) in
    none_deep c.args.tree.now c.is_tree.ensures items c.loop-extender.invariant.order c.loop-extender.ways
    (λ n known. c.loop-extender.invariant.hung n (ap (λ (xs : List ℕ). among xs n) all ∙ known)) k q none
