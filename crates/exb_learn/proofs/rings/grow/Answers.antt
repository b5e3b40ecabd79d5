use Rattle.std.proofs.Common.{length, length-append, sym, ap, subst, ◌∙◌, arith, [], ◌∷◌}
use Rattle.exb_learn.specs.declared.rings.RingLink.{RingLink}
use Rattle.exb_learn.specs.RingLinks.{in_table, IsClosed}
use Rattle.exb_learn.proofs.LinkTables.{grew, closed_grown}
use Rattle.exb_learn.proofs.rings.grow.Goals as goal

pub loop-node-preserved : goal.loop-node-preserved
loop-node-preserved c =
    let k : RingLink = record { next = c.loop-node.node; prev = c.loop-node.node } in
    let links = c.loop-node.links.items in
    let is = c.in_ok-push.ensures.items in
    let long = c.loop-node.invariant.2 in
    let longer = length-append links (k ∷ []) in (
      subst IsClosed (sym is) (closed_grown links k c.loop-node.invariant.0 (sym long) (sym long)),
      ap in_table is ∙ grew links k (sym long) (sym long) ∙ c.loop-node.invariant.1,
      ap length is ∙ (omega (arith, long, longer)),
    )
