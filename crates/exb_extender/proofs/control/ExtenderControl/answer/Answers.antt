use Rattle.std.proofs.Common.{subst, sym, ap, length, ◌≤◌, ◌∙◌, List, ℕ}
use Rattle.exb_ecp.specs.StopAndWait.{State, sent_payload}
use Rattle.exb_extender.proofs.ControlLemmas.{answer_fits, order_submitted}
use Rattle.exb_extender.proofs.control.ExtenderControl.answer.Goals as goal

pub submit-sequence-requires-clause-fits : goal.submit-sequence-requires-clause-fits
submit-sequence-requires-clause-fits c =
    subst (λ (xs : List ℕ). length xs ≤ 1024) (sym (c.as_slice.ensures.value ∙ c.write.ensures.spelled)) (answer_fits c.in-Some.message c.self.inside.session.last c.self.inside.session.answer c.in-Some.ensures)

pub write_request-requires : goal.write_request-requires
write_request-requires c =
    subst (λ (xs : List ℕ). length xs ≤ 1024) (sym (c.payload.ensures ∙ ap (λ (s : State). sent_payload s.sending) c.submit-sequence.ensures.step ∙ c.as_slice.ensures.value ∙ c.write.ensures.spelled)) (answer_fits c.in-Some.message c.self.inside.session.last c.self.inside.session.answer c.in-Some.ensures)

pub invariant_of-self : goal.invariant_of-self
invariant_of-self c =
    order_submitted _ _ _ _ c.as_slice.result.now c.stop.new.self c.submit-sequence.new.self
    (subst (λ (xs : List ℕ). length xs ≤ 1024) (sym (c.as_slice.ensures.value ∙ c.write.ensures.spelled)) (answer_fits c.in-Some.message c.self.inside.session.last c.self.inside.session.answer c.in-Some.ensures))
    c.stop.ensures c.submit-sequence.ensures.step c.self.invariant
