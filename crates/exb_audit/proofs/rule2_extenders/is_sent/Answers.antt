use Rattle.exb_audit.proofs.Rule2Extenders.{own_behind, sent_here}
use Rattle.std.proofs.lemmas.Option.{slice_get-get_or}
use Rattle.std.specs.Prelude.{drop, length, slice_get}
use Rattle.exb_trace_spec.specs.TraceChecker.{is_first}
use Rattle.exb_extender.specs.SentFrames.{own_sent}
use Rattle.std.proofs.Common.{◌≤◌, ◌++◌, ◌-◌, sym, ◌∙◌, ap, subst, eq-eqb}
use Rattle.std.proofs.lemmas.Bool.{ne_eqb}
use Rattle.exb_audit.proofs.Rule2Extenders.{and_first, and_none}
use Rattle.exb_audit.proofs.rule2_extenders.is_sent.Goals as goal

pub returns-then-place-frames-clause-value : goal.returns-then-place-frames-clause-value
returns-then-place-frames-clause-value c =
    c.is_own.ensures.value ∙ ap (λ fs. is_first c.args.side c.args.bytes.now (drop (c.args.place - length fs) (own_sent c.args.sends.now.first.items ++ own_sent c.args.sends.now.second.items))) c.as_slice-frames.ensures.value
    ∙ own_behind c.args.frame.now c.args.bytes.now c.args.side c.args.place c.args.sends.now.frames.items (own_sent c.args.sends.now.first.items ++ own_sent c.args.sends.now.second.items)
    (subst (λ fs. length fs ≤ c.args.place) c.as_slice-frames.ensures.value c.if-place-frames.true)

pub returns-then-side_number-side-clause-value : goal.returns-then-side_number-side-clause-value
returns-then-side_number-side-clause-value c =
    c.has_form.ensures ∙ sym (and_first _ _ (eq-eqb _ c.args.side (sym c.side_number.ensures ∙ c.if-side_number-side.true)))
    ∙ sym (sent_here c.args.frame.now c.args.bytes.now c.args.side c.args.place c.args.sends.now.frames.items (own_sent c.args.sends.now.first.items ++ own_sent c.args.sends.now.second.items) _
    (ap (λ fs. slice_get fs c.args.place) (sym c.as_slice-frames.ensures.value) ∙ slice_get-get_or c.as_slice-frames.result.now c.args.place _ c.if-place-frames.false))

pub returns-else-side_number-side-clause-value : goal.returns-else-side_number-side-clause-value
returns-else-side_number-side-clause-value c =
    ne_eqb c.side_number.result c.args.side c.if-side_number-side.false
    ∙ sym (sent_here c.args.frame.now c.args.bytes.now c.args.side c.args.place c.args.sends.now.frames.items (own_sent c.args.sends.now.first.items ++ own_sent c.args.sends.now.second.items) _
    (ap (λ fs. slice_get fs c.args.place) (sym c.as_slice-frames.ensures.value) ∙ slice_get-get_or c.as_slice-frames.result.now c.args.place _ c.if-place-frames.false)
    ∙ and_none _ _ (ne_eqb _ c.args.side (λ z. c.if-side_number-side.false (c.side_number.ensures ∙ z))))
