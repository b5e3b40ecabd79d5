use Rattle.std.proofs.Common.{◌∙◌, ◌+◌, [], ◌∷◌, List, map, take, drop, sym, subst, rules}
use Rattle.exb_control_spec.specs.Plans.Sets.{PortsAt, seen}
use Rattle.exb_plan.specs.PlanValues.{IsPlaced}
use Rattle.exb_plan.proofs.Lists.{image_next}
use Rattle.exb_plan.specs.Recount.{AreLowered}
use Rattle.exb_plan.proofs.RecountLemmas.{parts_next, still_used, lowered_more}
use Rattle.exb_plan.proofs.recount.lower_all.Goals as goal

pub lower-requires-clause-used : goal.lower-requires-clause-used
lower-requires-clause-used c g group =
    let v = c.args.spaces.now in
    let parts = c.args.parts.now in
    let i = c.loop-part.part-index in
    let s = c.part-item.result in
    let placed : IsPlaced v (seen s) = search rules in
    still_used v c.requires.own (map seen (take i parts)) (map seen (drop (i + 1) parts)) (map seen parts) (seen s) c.args.uses.now c.loop-part.uses g
    placed (parts_next seen parts i s c.loop-part-test.true c.part-item.is) c.requires.enough c.loop-part.invariant.counts group

pub loop-part-preserved : goal.loop-part-preserved
loop-part-preserved c =
    let v = c.args.spaces.now in
    let parts = c.args.parts.now in
    let i = c.loop-part.part-index in
    let s = c.part-item.result in
    record {
      counts = subst (λ (l : List PortsAt). AreLowered v l c.args.uses.now c.lower.new.uses) (sym (image_next seen parts i s c.loop-part-test.true c.part-item.is))
          (lowered_more v (map seen (take i parts)) (seen s ∷ []) c.args.uses.now c.loop-part.uses c.lower.new.uses c.loop-part.invariant.counts c.lower.ensures.counts);
      rows = λ k. c.lower.ensures.rows k ∙ c.loop-part.invariant.rows k;
    }
