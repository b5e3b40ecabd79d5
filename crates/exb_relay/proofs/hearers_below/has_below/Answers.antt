use Rattle.std.proofs.Common.{◌≡◌, ℕ, List, [], not, length, take, sym, refl, ap, ◌∙◌, arith}
use Rattle.std.proofs.Math.Seq.{take-length}
use Rattle.std.proofs.lemmas.Bool.{false≢true}
use Rattle.exb_model.specs.Refusals.{is_empty_set}
use Rattle.exb_relay.specs.SendsBySource.{is_hearer, set_below}
use Rattle.exb_relay.proofs.HearersBelow.{among, extender_at, mask_below, each_next, none_below, some_below}
use Rattle.exb_relay.proofs.hearers_below.has_below.Goals as goal

pub loop-extender-init : goal.loop-extender-init
loop-extender-init c = record { none = λ n known. absurd (false≢true known); order = c.order-extender-items.ensures }

pub mask_below-requires-clause-extender : goal.mask_below-requires-clause-extender
mask_below-requires-clause-extender c =
    (extender_at c.args.tree.now c.order-extender-items.result.now c.loop-extender.extender-index c.loop-extender.invariant.order c.loop-extender-test.true c.is_tree.ensures).0

pub mask_below-requires-clause-range : goal.mask_below-requires-clause-range
mask_below-requires-clause-range c =
    (extender_at c.args.tree.now c.order-extender-items.result.now c.loop-extender.extender-index c.loop-extender.invariant.order c.loop-extender-test.true c.is_tree.ensures).1

pub loop-extender-preserved : goal.loop-extender-preserved
loop-extender-preserved c =
    let test = is_hearer c.args.hearers.now c.args.kind in
    record {
      none = each_next c.order-extender-items.result.now c.loop-extender.extender-index _ c.loop-extender-test.true refl
          (λ n. mask_below c.args.tree.now c.args.bridge_port test n ≡ 0) (sym c.mask_below.ensures ∙ c.if-mask_below-ne0.false) c.loop-extender.invariant.none;
      order = c.loop-extender.invariant.order;
    }

pub returns-then-mask_below-ne0 : goal.returns-then-mask_below-ne0
returns-then-mask_below-ne0 c k at =
    let items = c.order-extender-items.result.now in
    let known = (extender_at c.args.tree.now items c.loop-extender.extender-index c.loop-extender.invariant.order c.loop-extender-test.true c.is_tree.ensures).0 in
    sym (ap not (some_below c.args.tree.now c.is_tree.ensures items c.args.bridge_port k (is_hearer c.args.hearers.now c.args.kind) c.loop-extender.invariant.order at c.requires.external
    _ known (λ z. c.if-mask_below-ne0.true (c.mask_below.ensures ∙ z))))

pub returns : goal.returns
returns c k at =
    let items = c.order-extender-items.result.now in
    let test = is_hearer c.args.hearers.now c.args.kind in
    let end : c.loop-extender.extender-index ≡ length items = omega arith in
    let all : take c.loop-extender.extender-index items ≡ items = rw end (take-length items) in
    let none : set_below c.args.tree.now k test ≡ [] =
    none_below c.args.tree.now c.is_tree.ensures items c.args.bridge_port k test c.loop-extender.invariant.order at c.requires.external
    (λ n known. c.loop-extender.invariant.none n (ap (λ (xs : List ℕ). among xs n) all ∙ known)) in
    sym (ap (λ (set : List ℕ). not (is_empty_set set)) none)
