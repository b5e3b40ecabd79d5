use Rattle.std.proofs.Common.{◌≡◌, ◌∙◌, sym, ◌+◌, arith, [], ◌∷◌}
use Rattle.std.proofs.lemmas.List.{append-nil, append_assoc}
use Rattle.exb_model.specs.Tree.{Shape, level, levels}
use Rattle.exb_model.proofs.TreeLoops.{level_none, level_in, level_out, levels_none, levels_more, by_depth_is}
use Rattle.exb_model.proofs.tree_tables.order_of.Goals as goal
use Rattle.exb_model.proofs.tree_tables.order_of.Goals.{then-is_at_depth+in_ok-push, else-is_at_depth}

pub loop-above-init : goal.loop-above-init
loop-above-init c = c.new-order.ensures.items ∙ sym (levels_none _)

pub loop-before-init : goal.loop-before-init
loop-before-init c = rw (level_none, append-nil) c.loop-above.invariant

pub loop-before-preserved : goal.loop-before-preserved
loop-before-preserved c =
    let t : Shape = c.args.layout.now in
    let d = c.loop-above.above + 1 in
    let k = c.loop-before.before in
    elim c.if-is_at_depth.branch [
      | then-is_at_depth+in_ok-push w ↦
          rw (w.order-is, w.in_ok-push.ensures.items, level_in t d k (sym c.is_at_depth.ensures ∙ w.if-is_at_depth.true), c.loop-before.invariant)
          (append_assoc (levels t c.loop-above.above) (level t d k) ((k + 1) ∷ []))
      | else-is_at_depth w ↦
          rw (w.order-is, level_out t d k (sym c.is_at_depth.ensures ∙ w.if-is_at_depth.false)) c.loop-before.invariant
    ]

pub loop-above-preserved : goal.loop-above-preserved
loop-above-preserved c =
    let done : c.loop-before.before ≡ 64 = omega arith in
    rw levels_more (rw done at c.loop-before.invariant)

pub returns : goal.returns
returns c =
    let done : c.loop-above.above ≡ 64 = omega arith in
    rw by_depth_is (rw done at c.loop-above.invariant)
