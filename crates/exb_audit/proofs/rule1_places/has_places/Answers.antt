use Rattle.std.proofs.Common.{sym, subst, take}
use Rattle.std.proofs.lemmas.Bool.{false≢true, eq-eqb, eqb-true}
use Rattle.std.proofs.lemmas.List.{take_all}
use Rattle.exb_trace_spec.specs.Rule1Places.{HasPlaces}
use Rattle.exb_audit.specs.Rule1Places.{IsToldSoFar}
use Rattle.exb_audit.proofs.TextCuts.{item_is, item_more}
use Rattle.exb_audit.proofs.Rule1Places.{all_told, told_all}
use Rattle.exb_audit.proofs.rule1_places.has_places.Goals as goal

pub returns-in_default : goal.returns-in_default
returns-in_default c = λ t e. (
  λ h. absurd (false≢true h),
  λ has. absurd (c.in_default.ensures.none t e (take c.loop-line.line-index c.args.trace.now) _ (c.loop-line.invariant.so_far t e)
      (subst (HasPlaces t c.args.journal.now) (item_is c.args.trace.now c.loop-line.line-index c.line-item.result c.line-item.is c.loop-line-test.true) has)),
)

pub loop-line-preserved : goal.loop-line-preserved
loop-line-preserved c = record {
  low = c.in-Some.ensures.low;
  so_far = λ t e. subst (λ ls. IsToldSoFar t c.args.journal.now ls c.in-Some.next) (sym (item_more c.args.trace.now c.loop-line.line-index c.line-item.result c.line-item.is c.loop-line-test.true))
      (c.in-Some.ensures.some t e (take c.loop-line.line-index c.args.trace.now) (c.loop-line.invariant.so_far t e));
}

pub returns : goal.returns
returns c = λ t e.
    let s : IsToldSoFar t c.args.journal.now c.args.trace.now c.loop-line.count = subst (λ ls. IsToldSoFar t c.args.journal.now ls c.loop-line.count) (take_all c.loop-line.line-index c.args.trace.now c.loop-line-test.false) (c.loop-line.invariant.so_far t e) in (
      λ h. all_told t c.args.journal.now c.args.trace.now c.loop-line.count s (eqb-true _ _ h),
      λ has. eq-eqb _ _ (told_all t c.args.journal.now c.args.trace.now c.loop-line.count s has),
    )
