use Rattle.std.proofs.Common.{◌∙◌, ◌+◌, ◌<◌, [], ◌∷◌, List, map, take, drop, sym, subst, rules}
use Rattle.exb_control_spec.specs.Plans.Sets.{PortsAt, seen}
use Rattle.exb_plan.specs.PlanValues.{IsPlaced}
use Rattle.exb_plan.proofs.Lists.{image_next}
use Rattle.exb_plan.specs.Recount.{AreRaised}
use Rattle.exb_plan.proofs.RecountLemmas.{parts_next, new_few, raised_more}
use Rattle.exb_plan.proofs.recount.raise_new.Goals as goal

pub raise_few-requires-clause-few : goal.raise_few-requires-clause-few
raise_few-requires-clause-few c g group =
    let v = c.args.spaces.now in
    let parts = c.args.parts.now in
    let i = c.loop-part.part-index in
    let s = c.part-item.result in
    let placed : IsPlaced v (seen s) = search rules in
    let low : i < 9223372036854775808 = search rules in
    new_few v c.requires.own seen parts i 9223372036854775808 (map seen (drop (i + 1) parts)) (seen s) c.args.uses.now c.loop-part.uses g
    placed (parts_next seen parts i s c.loop-part-test.true c.part-item.is) c.requires.unused c.loop-part.invariant.counts low group

pub loop-part-preserved : goal.loop-part-preserved
loop-part-preserved c =
    let v = c.args.spaces.now in
    let parts = c.args.parts.now in
    let i = c.loop-part.part-index in
    let s = c.part-item.result in
    record {
      counts = subst (λ (l : List PortsAt). AreRaised v l c.args.uses.now c.raise_few.new.uses) (sym (image_next seen parts i s c.loop-part-test.true c.part-item.is))
          (raised_more v (map seen (take i parts)) (seen s ∷ []) c.args.uses.now c.loop-part.uses c.raise_few.new.uses c.loop-part.invariant.counts c.raise_few.ensures.counts);
      rows = λ k. c.raise_few.ensures.rows k ∙ c.loop-part.invariant.rows k;
    }
