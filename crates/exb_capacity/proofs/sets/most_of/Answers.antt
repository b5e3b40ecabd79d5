use Rattle.std.proofs.Common.{◌≡◌, ◌∙◌, ℕ, max, sym, ap, arith}
use Rattle.exb_model.specs.Tree.{is_cascade}
use Rattle.exb_capacity.specs.NeededNumbers.{sets_below}
use Rattle.exb_capacity.proofs.FullestPort.{most_before, most-none, most-more_yes, most-more_no, most-all}
use Rattle.exb_capacity.proofs.sets.most_of.Goals as goal
use Rattle.exb_capacity.proofs.sets.most_of.Goals.{then-is_cascade, else-is_cascade}

pub loop-place-init : goal.loop-place-init
loop-place-init c b are = most-none c.args.tree.now (sets_below c.args.tree.now b)

pub loop-place-preserved : goal.loop-place-preserved
loop-place-preserved c b are =
    let t = c.args.tree.now in
    let f = sets_below t b in
    let n = c.loop-place.place in
    let at : c.at.result ≡ n = omega (arith, c.at.ensures) in
    let is = sym (c.is_cascade.ensures ∙ ap (is_cascade t) at) in
    elim c.if-is_cascade.branch [
      | then-is_cascade w ↦
          w.most-is
          ∙ (w.max-most.ensures
          ∙ (ap (λ (m : ℕ). max m w.sets_below.result) (c.loop-place.invariant b are)
          ∙ (ap (λ (m : ℕ). max (most_before t f n) m) (w.sets_below.ensures t b are)
          ∙ sym (most-more_yes t f n (is ∙ w.if-is_cascade.true)))))
      | else-is_cascade w ↦ w.most-is ∙ (c.loop-place.invariant b are ∙ sym (most-more_no t f n (is ∙ w.if-is_cascade.false)))
    ]

pub returns : goal.returns
returns c b are =
    let t = c.args.tree.now in
    c.loop-place.invariant b are ∙ most-all t (sets_below t b) c.loop-place.place (omega (arith, c.loop-place-test.false, c.loop-place.auto.place-end))
