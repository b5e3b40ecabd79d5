use Rattle.std.proofs.Common.{◌≡◌, ℕ, List, slice_index, length, take, subst, refl, ◌∙◌, arith}
use Rattle.std.proofs.Math.Seq.{take-length}
use Rattle.std.proofs.lemmas.List.{length-set}
use Rattle.exb_relay.specs.SendsBySource.{is_hearer}
use Rattle.exb_relay.proofs.HearersBelow.{no_words, extender_at, word_below, word_put, word_fits, below_has}
use Rattle.exb_relay.proofs.hearers_below.below.Goals as goal

pub loop-extender-init : goal.loop-extender-init
loop-extender-init c = record { words = λ n. no_words n; order = c.order-extender-items.ensures; sized = refl }

pub mask_below-requires-clause-extender : goal.mask_below-requires-clause-extender
mask_below-requires-clause-extender c =
    (extender_at c.args.tree.now c.order-extender-items.result.now c.loop-extender.extender-index c.loop-extender.invariant.order c.loop-extender-test.true c.is_tree.ensures).0

pub mask_below-requires-clause-range : goal.mask_below-requires-clause-range
mask_below-requires-clause-range c =
    (extender_at c.args.tree.now c.order-extender-items.result.now c.loop-extender.extender-index c.loop-extender.invariant.order c.loop-extender-test.true c.is_tree.ensures).1

pub bounds-words-extender : goal.bounds-words-extender
bounds-words-extender c =
    (extender_at c.args.tree.now c.order-extender-items.result.now c.loop-extender.extender-index c.loop-extender.invariant.order c.loop-extender-test.true c.is_tree.ensures).1

pub loop-extender-preserved : goal.loop-extender-preserved
loop-extender-preserved c =
    let at = (extender_at c.args.tree.now c.order-extender-items.result.now c.loop-extender.extender-index c.loop-extender.invariant.order c.loop-extender-test.true c.is_tree.ensures).1 in
    let sized = c.loop-extender.invariant.sized in
    record {
      words = word_put c.order-extender-items.result.now c.loop-extender.extender-index _ c.loop-extender-test.true refl
          c.args.tree.now c.args.bridge_port (is_hearer c.args.hearers.now c.args.kind) c.loop-extender.words c.mask_below.result (omega (arith, at, sized)) c.mask_below.ensures c.loop-extender.invariant.words;
      order = c.loop-extender.invariant.order;
      sized = length-set c.loop-extender.words _ c.mask_below.result ∙ sized;
    }

pub invariant_of-result : goal.invariant_of-result
invariant_of-result c = record {
  fits = λ n.
      let is = c.loop-extender.invariant.words n in
      let fits = word_fits c.args.tree.now c.args.bridge_port (is_hearer c.args.hearers.now c.args.kind) (take c.loop-extender.extender-index c.order-extender-items.result.now) n in
      omega (arith, is, fits);
  sized = c.loop-extender.invariant.sized;
}

pub returns : goal.returns
returns c k q at =
    let items = c.order-extender-items.result.now in
    let end : c.loop-extender.extender-index ≡ length items = omega arith in
    let all : take c.loop-extender.extender-index items ≡ items = rw end (take-length items) in
    let test = is_hearer c.args.hearers.now c.args.kind in
    below_has c.args.tree.now c.is_tree.ensures items c.args.bridge_port k test c.loop-extender.invariant.order at c.requires.external c.loop-extender.words
    (λ n. subst (λ (xs : List ℕ). slice_index c.loop-extender.words n ≡ word_below c.args.tree.now c.args.bridge_port test xs n) all (c.loop-extender.invariant.words n)) q
