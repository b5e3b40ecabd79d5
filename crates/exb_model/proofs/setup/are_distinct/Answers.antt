use Rattle.std.proofs.Common.{sym, ap, ◌∙◌}
use Rattle.std.proofs.lemmas.Bool.{false≢true}
use Rattle.std.proofs.lemmas.List.{get_or_default}
use Rattle.exb_model.specs.declared.setup.ExtenderSetup.{ExtenderSetup}
use Rattle.exb_model.proofs.Validity.{repeated, distinct_more}
use Rattle.exb_model.proofs.setup.are_distinct.Goals as goal

pub returns-then-has_number : goal.returns-then-has_number
returns-then-has_number c =
    let es = c.args.extenders.now in
    let i = c.loop-index.index in (
      λ f. absurd (false≢true f),
      λ apart. absurd (repeated es i _ c.loop-index-test.true (λ d. ap (λ (e : ExtenderSetup). e.number) (get_or_default es i d _ c.loop-index-test.true)) (sym c.has_number.ensures ∙ c.if-has_number.true) apart),
    )

pub loop-index-preserved : goal.loop-index-preserved
loop-index-preserved c =
    let es = c.args.extenders.now in
    let i = c.loop-index.index in
    distinct_more es i _ c.loop-index-test.true (λ d. ap (λ (e : ExtenderSetup). e.number) (get_or_default es i d _ c.loop-index-test.true)) (sym c.has_number.ensures ∙ c.if-has_number.false) c.loop-index.invariant
