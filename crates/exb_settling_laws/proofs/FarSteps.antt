-- What an extender does with downward words whose requests are all one.
use Rattle.std.proofs.Common.{◌≡◌, ◌⊎◌, inl, inr, ⊎_elim, ℕ, ◌+◌, ◌==◌, ◌&&◌, ◌≤◌, ◌<◌, true, false, List, [], ◌∷◌, ◌++◌, Option, Some, refl, ap, sym, ◌∙◌, subst, arith}
use Rattle.std.specs.Prelude.{nat_lt}
use Rattle.std.specs.List.{AllByRecursion}
use Rattle.std.proofs.lemmas.Bool.{eqb-true, eqb-false, eq-eqb, and_parts}
use borrow.Author.Tests.{lt-ltb}
use Rattle.exb_settling_laws.specs.StopAndWait.{Message, Request, Answer, Ack, Hello, is_got}
use Rattle.exb_ecp.specs.StopAndWait.{after}
use Rattle.exb_settling_laws.specs.SessionPair.{Far, far_hears, far_all, far_gets, far_takes, far_again, far_answers, with_got}
use Rattle.exb_settling_laws.specs.SessionMessages.{IsDown, IsUp, IsNoAnswer, HasAnswer, HasRequest, IsCurrent, IsTold}
use Rattle.exb_settling_laws.specs.AnswerStages.{IsOld}
use Rattle.exb_settling_laws.proofs.SequenceNumbers.{got-true, got-false, got-is}
use Rattle.exb_settling_laws.proofs.MessageLists.{each_push, each_weaker, has_answer_join, has_answer_last, current_acked}

-- nothing is answered yet
pub record Quiet (got0 : Option ℕ) (next0 last0 : ℕ) (f : Far) : Type 0 where
  pub got : f.link.got ≡ got0
  pub next : f.link.next ≡ next0
  pub last : f.last ≡ last0
  pub current : IsCurrent f.link.next f.last f.link.sending
  pub sent : AllByRecursion IsNoAnswer f.sent

-- the request is answered
pub record Told (sequence next0 serial : ℕ) (f : Far) : Type 0 where
  pub got : f.link.got ≡ Some sequence
  pub next : f.link.next ≡ after next0
  pub last : f.last ≡ serial
  pub current : IsCurrent f.link.next f.last f.link.sending
  pub sent : AllByRecursion (IsUp next0 serial) f.sent
  pub has : HasAnswer f.sent

pub no_answer_up : (y k : ℕ) (m : Message) → IsNoAnswer m → IsUp y k m
no_answer_up y k (Request s j) h = tt
no_answer_up y k (Answer s j) h = absurd h
no_answer_up y k (Ack s) h = tt
no_answer_up y k Hello h = tt

-- the last received sequence again
pub quiet_swallows : (sequence serial next last : ℕ) (f : Far) (m : Message) → IsDown sequence serial m
    → Quiet (Some sequence) next last f → Quiet (Some sequence) next last (far_hears f m)
quiet_swallows sequence serial next last f (Request s k) d h =
    elim (is_got f.link.got s) as (λ b. is_got f.link.got s ≡ b → Quiet (Some sequence) next last (far_gets b f s k)) [
      | true ↦ λ e. record { got = h.got; next = h.next; last = h.last; current = h.current; sent = each_push _ _ _ h.sent tt }
      | false ↦ λ e. absurd (got-false _ _ e (h.got ∙ ap (λ n. Some n) (sym d.0)))
    ] refl
quiet_swallows sequence serial next last f (Answer s k) d h = h
quiet_swallows sequence serial next last f (Ack s) d h =
    record { got = h.got; next = h.next; last = h.last; current = current_acked _ _ s _ h.current; sent = h.sent }
quiet_swallows sequence serial next last f Hello d h = h

answered : (sequence serial next last : ℕ) (got : Option ℕ) (f : Far) → Quiet got next last f
    → Told sequence next serial (far_answers (record { link = with_got f.link sequence; last = f.last; count = f.count; sent = f.sent ++ Ack sequence ∷ [] }) serial)
answered sequence serial next last got f h = record {
  got = refl;
  next = ap after h.next;
  last = refl;
  current = (refl, refl);
  sent = each_push _ _ _ (each_push _ _ _ (each_weaker _ _ (no_answer_up next serial) f.sent h.sent) tt) (h.next, refl);
  has = has_answer_last (f.sent ++ Ack sequence ∷ []) f.link.next serial;
}

-- another sequence: it is executed, or answered again
pub quiet_tells : (sequence serial next last : ℕ) (got : Option ℕ) (f : Far) → (got ≡ Some sequence → ⊥) → IsTold serial last
    → Quiet got next last f → Told sequence next serial (far_hears f (Request sequence serial))
quiet_tells sequence serial next last got f other told h =
    elim (is_got f.link.got sequence) as (λ b. is_got f.link.got sequence ≡ b → Told sequence next serial (far_gets b f sequence serial)) [
      | true ↦ λ e. absurd (other (sym h.got ∙ got-true _ _ e))
      | false ↦ λ e.
          let g : Far = record { link = with_got f.link sequence; last = f.last; count = f.count; sent = f.sent ++ Ack sequence ∷ [] } in
          elim (serial == f.last + 1) as (λ b. (serial == f.last + 1) ≡ b → Told sequence next serial (far_takes b g serial)) [
            | true ↦ λ t. answered sequence serial next last got f h
            | false ↦ λ t.
                ⊎_elim
                (λ (k : serial ≡ last + 1). absurd (eqb-false _ _ t (k ∙ ap (λ n. n + 1) (sym h.last))))
                (λ (k : (serial ≡ last) × (0 < last)).
                let a : (serial == f.last) ≡ true = eq-eqb _ _ (k.0 ∙ sym h.last) in
                let z : 0 < f.last = (let l : f.last ≡ last = h.last in let p : 0 < last = k.1 in omega arith) in
                let b : nat_lt 0 f.last ≡ true = lt-ltb 0 f.last z in
                let c : ((serial == f.last) && nat_lt 0 f.last) ≡ true = rw (a, b) refl in
                subst (λ v. Told sequence next serial (far_again v g serial)) (sym c) (answered sequence serial next last got f h))
                told
          ] refl
    ] refl

pub told_hears : (sequence serial next : ℕ) (f : Far) (m : Message) → IsDown sequence serial m
    → Told sequence next serial f → Told sequence next serial (far_hears f m)
told_hears sequence serial next f (Request s k) d h =
    elim (is_got f.link.got s) as (λ b. is_got f.link.got s ≡ b → Told sequence next serial (far_gets b f s k)) [
      | true ↦ λ e. record { got = h.got; next = h.next; last = h.last; current = h.current; sent = each_push _ _ _ h.sent tt; has = has_answer_join f.sent (Ack s ∷ []) h.has }
      | false ↦ λ e. absurd (got-false _ _ e (h.got ∙ ap (λ n. Some n) (sym d.0)))
    ] refl
told_hears sequence serial next f (Answer s k) d h = h
told_hears sequence serial next f (Ack s) d h =
    record { got = h.got; next = h.next; last = h.last; current = current_acked _ _ s _ h.current; sent = h.sent; has = h.has }
told_hears sequence serial next f Hello d h = h

pub quiet_all : (sequence serial next last : ℕ) (f : Far) (ms : List Message) → AllByRecursion (IsDown sequence serial) ms
    → Quiet (Some sequence) next last f → Quiet (Some sequence) next last (far_all f ms)
quiet_all sequence serial next last f [] d h = h
quiet_all sequence serial next last f (m ∷ ms) d h = quiet_all sequence serial next last (far_hears f m) ms d.1 (quiet_swallows sequence serial next last f m d.0 h)

pub told_all : (sequence serial next : ℕ) (f : Far) (ms : List Message) → AllByRecursion (IsDown sequence serial) ms
    → Told sequence next serial f → Told sequence next serial (far_all f ms)
told_all sequence serial next f [] d h = h
told_all sequence serial next f (m ∷ ms) d h = told_all sequence serial next (far_hears f m) ms d.1 (told_hears sequence serial next f m d.0 h)

-- a request of another sequence among these words is answered
pub tells_all : (sequence serial next last : ℕ) (got : Option ℕ) (f : Far) (ms : List Message) → (got ≡ Some sequence → ⊥) → IsTold serial last
    → AllByRecursion (IsDown sequence serial) ms → Quiet got next last f
    → (Quiet got next last (far_all f ms) × (HasRequest ms → ⊥)) ⊎ Told sequence next serial (far_all f ms)
tells_all sequence serial next last got f [] other told d h = inl (h, λ z. z)
tells_all sequence serial next last got f (Request s k ∷ ms) other told d h =
    let same : Message = Request sequence serial in
    let e : Request s k ≡ same = cc (d.0.0, d.0.1) in
    inr (told_all sequence serial next (far_hears f (Request s k)) ms d.1
    (subst (λ m. Told sequence next serial (far_hears f m)) (sym e) (quiet_tells sequence serial next last got f other told h)))
tells_all sequence serial next last got f (Answer s k ∷ ms) other told d h = tells_all sequence serial next last got f ms other told d.1 h
tells_all sequence serial next last got f (Ack s ∷ ms) other told d h =
    tells_all sequence serial next last got (far_hears f (Ack s)) ms other told d.1
    (record { got = h.got; next = h.next; last = h.last; current = current_acked _ _ s _ h.current; sent = h.sent })
tells_all sequence serial next last got f (Hello ∷ ms) other told d h = tells_all sequence serial next last got f ms other told d.1 h

-- what comes of these words
pub far_outcome : (sequence serial next last : ℕ) (got : Option ℕ) (f : Far) (ms : List Message) → IsTold serial last
    → AllByRecursion (IsDown sequence serial) ms → Quiet got next last f
    → (Quiet got next last (far_all f ms) × (HasRequest ms → got ≡ Some sequence)) ⊎ Told sequence next serial (far_all f ms)
far_outcome sequence serial next last got f ms told d h =
    ⊎_elim
    (λ (e : got ≡ Some sequence). inl (subst (λ o. Quiet o next last (far_all f ms)) (sym e) (quiet_all sequence serial next last f ms d (subst (λ o. Quiet o next last f) e h)), λ z. e))
    (λ (e : got ≡ Some sequence → ⊥).
    ⊎_elim
    (λ (k : Quiet got next last (far_all f ms) × (HasRequest ms → ⊥)). inl (k.0, λ z. absurd (k.1 z)))
    (λ (k : Told sequence next serial (far_all f ms)). inr k)
    (tells_all sequence serial next last got f ms e told d h))
    (got-is got sequence)

-- what holds of an extender whatever old words come
pub record Sound (serial : ℕ) (f : Far) : Type 0 where
  pub told : IsTold serial f.last
  pub current : IsCurrent f.link.next f.last f.link.sending
  pub answered : (y : ℕ) × (after y ≡ f.link.next)

sound_answers : (serial k : ℕ) (f : Far) → IsTold serial k → Sound serial f → Sound serial (far_answers f k)
sound_answers serial k f told h = record { told = told; current = (refl, refl); answered = (f.link.next, refl) }

sound_told : (serial k last : ℕ) → k ≤ serial → IsTold serial last → k ≡ last + 1 → IsTold serial k
sound_told serial k last le told e =
    ⊎_elim
    (λ (a : serial ≡ last + 1). inr (a ∙ sym e, omega arith))
    (λ (a : (serial ≡ last) × (0 < last)). let b : serial ≡ last = a.0 in absurd (omega arith))
    told

sound_takes : (serial k : ℕ) (f : Far) → k ≤ serial → Sound serial f → Sound serial (far_takes (k == f.last + 1) f k)
sound_takes serial k f le h =
    elim (k == f.last + 1) as (λ b. (k == f.last + 1) ≡ b → Sound serial (far_takes b f k)) [
      | true ↦ λ e. sound_answers serial k f (sound_told serial k f.last le h.told (eqb-true _ _ e)) h
      | false ↦ λ e.
          elim ((k == f.last) && nat_lt 0 f.last) as (λ b. ((k == f.last) && nat_lt 0 f.last) ≡ b → Sound serial (far_again b f k)) [
            | true ↦ λ t. sound_answers serial k f (subst (IsTold serial) (sym (eqb-true _ _ (and_parts _ _ t).0)) h.told) h
            | false ↦ λ t. h
          ] refl
    ] refl

pub sound_hears : (serial : ℕ) (f : Far) (m : Message) → IsOld serial m → Sound serial f → Sound serial (far_hears f m)
sound_hears serial f (Request s k) d h =
    elim (is_got f.link.got s) as (λ b. Sound serial (far_gets b f s k)) [
      | true ↦ record { told = h.told; current = h.current; answered = h.answered }
      | false ↦ sound_takes serial k (record { link = with_got f.link s; last = f.last; count = f.count; sent = f.sent ++ Ack s ∷ [] }) d (record { told = h.told; current = h.current; answered = h.answered })
    ]
sound_hears serial f (Answer s k) d h = h
sound_hears serial f (Ack s) d h = record { told = h.told; current = current_acked _ _ s _ h.current; answered = h.answered }
sound_hears serial f Hello d h = h

pub sound_all : (serial : ℕ) (f : Far) (ms : List Message) → AllByRecursion (IsOld serial) ms → Sound serial f → Sound serial (far_all f ms)
sound_all serial f [] d h = h
sound_all serial f (m ∷ ms) d h = sound_all serial (far_hears f m) ms d.1 (sound_hears serial f m d.0 h)
