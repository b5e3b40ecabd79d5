use Rattle.std.proofs.Common.{◌≡◌, ◌∙◌, ℕ, max, sym, ap, arith}
use Rattle.exb_model.specs.Tree.{is_cascade}
use Rattle.exb_capacity.specs.NeededNumbers.{channels_below}
use Rattle.exb_capacity.proofs.FullestPort.{most_before, most-none, most-more_yes, most-more_no, most-all}
use Rattle.exb_capacity.proofs.channels.channels.Goals as goal
use Rattle.exb_capacity.proofs.channels.channels.Goals.{then-is_cascade, else-is_cascade}

pub loop-place-init : goal.loop-place-init
loop-place-init c = most-none c.args.tree.now (channels_below c.args.tree.now)

pub loop-place-preserved : goal.loop-place-preserved
loop-place-preserved c =
    let t = c.args.tree.now in
    let f = channels_below t in
    let n = c.loop-place.place in
    let at : c.at.result ≡ n = omega (arith, c.at.ensures) in
    let is = sym (c.is_cascade.ensures ∙ ap (is_cascade t) at) in
    elim c.if-is_cascade.branch [
      | then-is_cascade w ↦
          w.most-is
          ∙ (w.max-most.ensures
          ∙ (ap (λ (m : ℕ). max m w.channels_below.result) c.loop-place.invariant
          ∙ (ap (λ (m : ℕ). max (most_before t f n) m) w.channels_below.ensures
          ∙ sym (most-more_yes t f n (is ∙ w.if-is_cascade.true)))))
      | else-is_cascade w ↦ w.most-is ∙ (c.loop-place.invariant ∙ sym (most-more_no t f n (is ∙ w.if-is_cascade.false)))
    ]

pub returns : goal.returns
returns c =
    let t = c.args.tree.now in
    c.loop-place.invariant ∙ most-all t (channels_below t) c.loop-place.place (omega (arith, c.loop-place-test.false, c.loop-place.auto.place-end))
