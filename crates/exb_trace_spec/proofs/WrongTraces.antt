-- Wrong traces are refused.
use Rattle.std.proofs.Common.{◌≡◌, ℕ, true, false, List, [], ◌∷◌, ◌++◌, refl, ap, sym, ◌∙◌, subst}
use Rattle.std.proofs.lemmas.Bool.{eq-eqb, false≢true}
use Rattle.exb_model.specs.declared.event.Event.TheVariants as event
use Rattle.exb_model.specs.Texts.{line_of}
use Rattle.exb_model.specs.Frames.{is_control_frame}
use Rattle.exb_model.specs.Traces.{Out, Journal}
use Rattle.exb_trace_spec.specs.Rule2Extenders.{MayFollow}
use Rattle.exb_trace_spec.specs.Rule3Links.{data_of, IsFront, WasSent}
use Rattle.exb_trace_spec.specs.Rule5Relays.{relays, sent}
use Rattle.exb_trace_spec.specs.WrongTraces.{RefusesWrong}
use Rattle.exb_trace_spec.proofs.RelayLines.{relay_is_relay}

cons_nil : {x : List ℕ} {xs : List (List ℕ)} → x ∷ xs ≡ [] → ⊥
cons_nil e = cc

nil_cons : {x : List ℕ} {xs : List (List ℕ)} → [] ≡ x ∷ xs → ⊥
nil_cons e = cc

heads : {x y : List ℕ} {xs ys : List (List ℕ)} → x ∷ xs ≡ y ∷ ys → x ≡ y
heads e = cc

no_such : (d c : List ℕ) → is_control_frame d ≡ false → is_control_frame c ≡ true → WasSent (d ∷ c ∷ []) [] c → ⊥
no_such d c plain_d control k = by_before k.before k.is k.all_in
  where
    by_before : (xs : List (List ℕ)) → d ∷ c ∷ [] ≡ xs ++ c ∷ k.after → IsFront (data_of xs) [] → ⊥
    by_before [] e front = false≢true (sym plain_d ∙ ap is_control_frame (heads e) ∙ control)
    by_before (x ∷ xs) e front =
        let plain : is_control_frame x ≡ false = subst (λ (f : List ℕ). is_control_frame f ≡ false) (heads e) plain_d in
        let front' : IsFront (x ∷ data_of xs) [] = rw plain at front in
        nil_cons front'.is

pub refuses_wrong : RefusesWrong
unfolding MayFollow
refuses_wrong =
    record {
      unasked = λ t n k f follows. follows.each.0 refl;
      overtaking = λ d c plain control goes. (let was : WasSent (d ∷ c ∷ []) [] c = goes.control_in_order.1.1.0 c refl control in no_such d c plain control was);
      unsent = λ d plain goes. (let first : IsFront (data_of (d ∷ [])) [] = goes.data_in_order.1.0 in let front : IsFront (d ∷ []) [] = rw plain at first in nil_cons front.is);
      no_frame = λ t captures p n moment f steps. (
          let none : relays (Journal (line_of (event.Relay p n moment f)) ∷ []) ≡ [] = (steps.each.0 refl).relayed refl in
          cons_nil (rw (relay_is_relay p n moment f) at none)
          );
      no_relay = λ t captures k f its steps. (
          let none : sent t k (Out 0 k f ∷ []) ≡ [] = (steps.each.0 refl).by_relay refl k in
          cons_nil (rw (eq-eqb k k refl, its) at none)
          );
      unsaid = λ t captures k f its steps. nil_cons ((steps.each.0 refl).entered its).once;
    }
