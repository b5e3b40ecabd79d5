use Rattle.std.proofs.Common.{◌≡◌, ◌∙◌, sym, ◌+◌, ◌-◌, arith, [], ◌∷◌}
use Rattle.std.proofs.lemmas.List.{append-nil, append_assoc}
use Rattle.exb_model.specs.Tree.{Shape, level}
use Rattle.exb_model.proofs.TreeLoops.{level_none, level_in, level_out}
use Rattle.exb_bridge.proofs.DeepestFirst.{deeper, deeper_none, deeper_more, deepest_is}
use Rattle.exb_bridge.proofs.extender_order.deepest_first.Goals as goal
use Rattle.exb_bridge.proofs.extender_order.deepest_first.Goals.{then-is_at_depth+in_ok-push, else-is_at_depth}

pub loop-below-init : goal.loop-below-init
loop-below-init c = c.new-order.ensures.items ∙ sym (deeper_none _)

pub loop-before-init : goal.loop-before-init
loop-before-init c = rw (level_none, append-nil) c.loop-below.invariant

pub loop-before-preserved : goal.loop-before-preserved
loop-before-preserved c =
    let t : Shape = c.args.tree.now in
    let d = 64 - c.loop-below.below in
    let k = c.loop-before.before in
    elim c.if-is_at_depth.branch [
      | then-is_at_depth+in_ok-push w ↦
          rw (w.order-is, w.in_ok-push.ensures.items, level_in t d k (sym c.is_at_depth.ensures ∙ w.if-is_at_depth.true), c.loop-before.invariant)
          (append_assoc (deeper t c.loop-below.below) (level t d k) ((k + 1) ∷ []))
      | else-is_at_depth w ↦
          rw (w.order-is, level_out t d k (sym c.is_at_depth.ensures ∙ w.if-is_at_depth.false)) c.loop-before.invariant
    ]

pub loop-below-preserved : goal.loop-below-preserved
loop-below-preserved c =
    let done : c.loop-before.before ≡ 64 = omega arith in
    rw deeper_more (rw done at c.loop-before.invariant)

pub returns : goal.returns
returns c =
    let done : c.loop-below.below ≡ 64 = omega arith in
    rw (← deepest_is) (rw done at c.loop-below.invariant)
