-- What an asker takes.
use Rattle.std.proofs.Common.{◌≡◌, ◌≢◌, ℕ, ◌==◌, ◌||◌, cond, not, true, false, nat_lt, Option, Some, None, refl, ◌∙◌, ap, inl, inr, eq-eqb, arith}
use Rattle.std.proofs.lemmas.Bool.{cases_Bool, cases_eq, ne_eqb, ltb-true}
use mathlib.Core.Path.{fun_ext}
use Rattle.exb_csp.specs.declared.message.Request.{Request}
use Rattle.exb_csp.specs.declared.message.Response.{Response}
use Rattle.exb_csp.specs.declared.message.Body.{Body}
use Rattle.exb_csp.specs.declared.message.Body.TheVariants as body
use Rattle.exb_csp.specs.declared.message.Message.{Message}
use Rattle.exb_csp.specs.RequestKinds.{kind_of, same_kind}
use Rattle.exb_csp.specs.declared.session.asker.Taken.{Taken}
use Rattle.exb_csp.specs.declared.session.asker.Taken.TheVariants as taken
use Rattle.exb_csp.specs.Sessions.AskingEnd.{AskerState, took, took_body, beaten, beaten_while}
use Rattle.exb_control_spec.specs.Decisions.{Decide}
use Rattle.exb_control_spec.specs.Machine.{State, still, with_asker, answered, answered_where}
use Rattle.exb_control_spec.specs.Runs.Systems.{answer_message, IsStray}

-- ---- the answer that is waited for
not_less : (n : ℕ) → nat_lt n n ≡ false
not_less n = elim (cases_Bool (nat_lt n n)) [ inl e ↦ absurd (let k = ltb-true n n e in omega (arith, k)) | inr e ↦ e ]

took_same : (a : AskerState) (o : Option Request) (request : Request) (response : Response) → o ≡ Some request → response.to ≡ kind_of request →
    took_body a o a.serial (body.Answer response) ≡ (record { serial = a.serial; waiting = None; beats = 0 }, taken.Answer response)
took_same a None request response e k = absurd (cc)
took_same a (Some other) request response e k =
    let same : other ≡ request = cc in
    let kinds : same_kind response.to (kind_of other) ≡ true = rw (same, k) (eq-eqb _ _ refl) in
    rw (not_less a.serial, kinds) refl

-- the answer of the outstanding request is taken as that
pub takes : (a : AskerState) (request : Request) (response : Response) → a.waiting ≡ Some request → response.to ≡ kind_of request →
    took a (answer_message a.serial response) ≡ (record { serial = a.serial; waiting = None; beats = 0 }, taken.Answer response)
takes a request response e k = took_same a a.waiting request response e k

-- ---- any other message
pub unchanged : (a : AskerState) (o : Option Request) (serial : ℕ) (content : Body) → ((response : Response) → (took_body a o serial content).1 ≢ taken.Answer response) →
    (took_body a o serial content).0 ≡ a
unchanged a None serial content f = refl
unchanged a (Some request) serial (body.Ask other) f = refl
unchanged a (Some request) serial (body.Answer response) f =
    elim (cases_Bool (nat_lt serial a.serial)) [
      | inl e ↦ rw e refl
      | inr e ↦ elim (cases_Bool (nat_lt a.serial serial || not (same_kind response.to (kind_of request)))) [
        | inl g ↦ rw (e, g) refl
        | inr g ↦ absurd (f response (rw (e, g) refl))
      ]
    ]

pub same_asker : (n : ℕ) (s : State) → with_asker n (s.askers n) s ≡ s
same_asker n s = ap (λ (f : ℕ → AskerState). record s { askers = f }) (fun_ext (λ m. by_number m))
  where
    by_number : (m : ℕ) → cond (m == n) (s.askers n) (s.askers m) ≡ s.askers m
    by_number m = elim (cases_eq m n) [ inl e ↦ rw (e, eq-eqb n n refl) refl | inr e ↦ rw (ne_eqb m n e) refl ]

-- it changes nothing
pub stray_is_still : (decide : Decide) (n : ℕ) (m : Message) (s : State) → IsStray s n m → answered decide n m s ≡ still s
stray_is_still decide n m s f =
    let same : with_asker n (took (s.askers n) m).0 s ≡ s = ap (λ (a : AskerState). with_asker n a s) (unchanged (s.askers n) (s.askers n).waiting m.serial m.body f) ∙ same_asker n s in
    by_taken (took (s.askers n) m).1 (with_asker n (took (s.askers n) m).0 s) f ∙ ap still same
  where
    by_taken : (t : Taken) (s' : State) → ((response : Response) → t ≢ taken.Answer response) → answered_where decide t s' ≡ still s'
    by_taken (taken.Answer response) s' f = absurd (f response refl)
    by_taken taken.Stale s' f = refl
    by_taken taken.NotOurs s' f = refl

-- ---- beats
-- a beat leaves what is waited for, and the serial
pub beat_waits : (a : AskerState) → (beaten a).0.waiting ≡ a.waiting
beat_waits a = by_waiting a.waiting
  where
    by_waiting : (o : Option Request) → (beaten_while a o).0.waiting ≡ a.waiting
    by_waiting None = refl
    by_waiting (Some request) = elim (cases_Bool (a.beats == 15)) [ inl e ↦ rw e refl | inr e ↦ rw e refl ]

pub beat_serial : (a : AskerState) → (beaten a).0.serial ≡ a.serial
beat_serial a = by_waiting a.waiting
  where
    by_waiting : (o : Option Request) → (beaten_while a o).0.serial ≡ a.serial
    by_waiting None = refl
    by_waiting (Some request) = elim (cases_Bool (a.beats == 15)) [ inl e ↦ rw e refl | inr e ↦ rw e refl ]
