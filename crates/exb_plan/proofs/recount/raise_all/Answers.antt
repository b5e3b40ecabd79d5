use Rattle.std.proofs.Common.{◌∙◌, [], ◌∷◌, List, map, take, refl, sym, subst}
use Rattle.std.proofs.lemmas.List.{take_all}
use Rattle.std.proofs.lemmas.Result.{err_from_is_err_and}
use Rattle.exb_control_spec.specs.declared.plan.set_at.SetAt.{SetAt}
use Rattle.exb_control_spec.specs.Plans.Sets.{PortsAt, seen}
use Rattle.exb_plan.proofs.Lists.{image_next}
use Rattle.exb_plan.specs.Recount.{AreRaised}
use Rattle.exb_plan.proofs.RecountLemmas.{raised_begins, raised_more}
use Rattle.exb_plan.proofs.recount.raise_all.Goals as goal

pub loop-part-init : goal.loop-part-init
loop-part-init c = record { counts = raised_begins c.args.spaces.now c.args.uses.now; rows = λ k. refl }

pub loop-part-preserved : goal.loop-part-preserved
loop-part-preserved c =
    let v = c.args.spaces.now in
    let parts = c.args.parts.now in
    let i = c.loop-part.part-index in
    let s = c.part-item.result in
    record {
      counts = subst (λ (l : List PortsAt). AreRaised v l c.args.uses.now c.raise.new.uses) (sym (image_next seen parts i s c.loop-part-test.true c.part-item.is))
          (raised_more v (map seen (take i parts)) (seen s ∷ []) c.args.uses.now c.loop-part.uses c.raise.new.uses c.loop-part.invariant.counts c.in_ok-raise.ensures.counts);
      rows = λ k. c.in_ok-raise.ensures.rows k ∙ c.loop-part.invariant.rows k;
    }

pub returns-in_err-raise : goal.returns-in_err-raise
returns-in_err-raise c =
    let e = err_from_is_err_and c.from_residual.result c.from_residual.ensures.1 in
    rw e.1 (record { counts = tt; rows = λ k. c.in_err-raise.ensures.rows k ∙ c.loop-part.invariant.rows k })

pub returns : goal.returns
returns c =
    let made = c.loop-part.invariant in
    record {
      counts = subst (λ (l : List SetAt). AreRaised c.args.spaces.now (map seen l) c.args.uses.now c.loop-part.uses) (take_all c.loop-part.part-index c.args.parts.now c.loop-part-test.false) made.counts;
      rows = made.rows;
    }
