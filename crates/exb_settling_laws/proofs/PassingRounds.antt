-- Rounds in which each word passes, from worlds with no earlier words.
use Rattle.std.proofs.Common.{◌≡◌, ◌⊎◌, inl, inr, ⊎_elim, ℕ, ◌+◌, ◌==◌, ◌&&◌, ◌≤◌, ◌<◌, Bool, true, false, List, [], ◌∷◌, ◌++◌, Option, Some, refl, ap, sym, ◌∙◌, subst, arith}
use Rattle.std.specs.Prelude.{⊤}
use Rattle.std.specs.List.{AllByRecursion}
use Rattle.std.proofs.lemmas.Option.{same_Some}
use Rattle.exb_settling_laws.specs.StopAndWait.{Message, Request, Answer, Ack, Hello, is_got, again, counted, hello_words}
use Rattle.exb_ecp.specs.StopAndWait.{after}
use Rattle.exb_settling_laws.specs.SessionPair.{Near, Far, Pair, near_hears, near_all, near_gets, near_takes, near_beat, near_beats, near_empty, near_up, far_empty, far_beat, far_down, with_got, pass_round}
use Rattle.exb_settling_laws.specs.SessionMessages.{IsDown, IsUp, HasAnswer, HasRequest, IsCurrent}
use Rattle.exb_settling_laws.specs.AnswerStages.{Waiting, Fresh, Steady, Resting, Asking, Coming, SteadyLeft}
use Rattle.exb_settling_laws.proofs.SequenceNumbers.{after_ne, after_same, got-is, cases_le}
use Rattle.exb_settling_laws.proofs.MessageLists.{each_join, each_weaker, has_request_join, has_answer_join, again_up}
use Rattle.exb_settling_laws.proofs.FarSteps.{Quiet, Told, far_outcome, no_answer_up}
use Rattle.exb_settling_laws.proofs.NearSteps.{IsFrom, answer_taken, near_beat_is}
use Rattle.exb_settling_laws.proofs.SessionPairRounds.{beaten, NearIs, Upward, upward, any_from, resent}

same_after : (y s : ℕ) → after s ≡ after y → s ≡ y
same_after y s e = after_same s y e

hello_up : (y k : ℕ) (a b : Bool) → AllByRecursion (IsUp y k) (hello_words a b)
hello_up y k true true = (tt, tt)
hello_up y k true false = tt
hello_up y k false b = tt

-- what the extender's count is after a beat
abbrev now : Far → ℕ
now f = counted (f.count == 15) f.count

-- what stands on the way up after the beat
up_quiet : (got : Option ℕ) (next last y : ℕ) (f : Far) → after y ≡ next → Quiet got next last f → AllByRecursion (IsUp y f.last) (far_beat f).sent
up_quiet got next last y f e h =
    each_join (IsUp y f.last) f.sent (hello_words (now f == 1) (f.last == 0) ++ again Answer f.link.sending) (each_weaker _ _ (no_answer_up y f.last) f.sent h.sent)
    (each_join (IsUp y f.last) (hello_words (now f == 1) (f.last == 0)) (again Answer f.link.sending) (hello_up y f.last (now f == 1) (f.last == 0)) (again_up y f.last f.link.sending (subst (λ v. IsCurrent v f.last f.link.sending) (h.next ∙ sym e) h.current) (same_after y)))

up_told : (q next serial : ℕ) (f : Far) → Told q next serial f → AllByRecursion (IsUp next f.last) (far_beat f).sent
up_told q next serial f h =
    each_join (IsUp next f.last) f.sent (hello_words (now f == 1) (f.last == 0) ++ again Answer f.link.sending) (subst (λ v. AllByRecursion (IsUp next v) f.sent) (sym h.last) h.sent)
    (each_join (IsUp next f.last) (hello_words (now f == 1) (f.last == 0)) (again Answer f.link.sending) (hello_up next f.last (now f == 1) (f.last == 0)) (again_up next f.last f.link.sending (subst (λ v. IsCurrent v f.last f.link.sending) h.next h.current) (same_after next)))

up_from : (y k : ℕ) (ms : List Message) → AllByRecursion (IsUp y k) ms → AllByRecursion (IsFrom (λ s. s ≡ y)) ms
up_from y k [] h = tt
up_from y k (Request s j ∷ ms) h = (tt, up_from y k ms h.1)
up_from y k (Answer s j ∷ ms) h = (h.0.0, up_from y k ms h.1)
up_from y k (Ack s ∷ ms) h = (tt, up_from y k ms h.1)
up_from y k (Hello ∷ ms) h = (tt, up_from y k ms h.1)

has_hears : (n : Near) (m : Message) → HasRequest n.sent → HasRequest (near_hears n m).sent
has_hears n (Request s k) h = h
has_hears n (Answer s k) h =
    elim (is_got n.link.got s) as (λ b. HasRequest (near_gets b n s k).sent) [
      | true ↦ has_request_join n.sent (Ack s ∷ []) h
      | false ↦
          let x : Near = record { link = with_got n.link s; waits = n.waits; serial = n.serial; beats = n.beats; sent = n.sent ++ Ack s ∷ [] } in
          elim (n.waits && (k == n.serial)) as (λ b. HasRequest (near_takes b x).sent) [
            | true ↦ has_request_join n.sent (Ack s ∷ []) h
            | false ↦ has_request_join n.sent (Ack s ∷ []) h
          ]
    ]
has_hears n (Ack s) h = h
has_hears n Hello h = h

has_all : (n : Near) (ms : List Message) → HasRequest n.sent → HasRequest (near_all n ms).sent
has_all n [] h = h
has_all n (m ∷ ms) h = has_all (near_hears n m) ms (has_hears n m h)

abbrev asked_pair : Near → Far → Pair
asked_pair n f = record { near = near_beats true (near_empty n); far = far_beat f }

abbrev older_pair : Near → Far → Pair
older_pair n f = record { near = near_beats false (near_empty n); far = far_beat f }

abbrev Stages : ℕ → ℕ → ℕ → Pair → Type 0
Stages q y t p = Resting t p ⊎ (Asking q t p ⊎ Coming y t p)

-- after the beat, by whether the bridge asks again
finish : (q y t : ℕ) (n : Near) (f : Far) → NearIs q n → after y ≡ f.link.next → AllByRecursion (IsUp y f.last) (far_beat f).sent
    → (n.beats + 1 ≡ 16 → Stages n.link.next y t (asked_pair n f)) → (n.beats + 1 < 16 → Stages q y t (older_pair n f))
    → SteadyLeft t (beaten n f)
finish q y t n f h e up a b =
    ⊎_elim
    (λ (k : (n.beats + 1 ≡ 16) × (near_beat (near_empty n) ≡ near_beats true (near_empty n))).
    subst (λ m. SteadyLeft t (record { near = m; far = far_beat f })) (sym k.1)
    (record { q = n.link.next; y = y; steady = record { asked = refl; answered = e; down = ((refl, refl), tt); up = up }; stage = a k.0 }))
    (λ (k : (n.beats + 1 < 16) × (near_beat (near_empty n) ≡ near_beats false (near_empty n))).
    subst (λ m. SteadyLeft t (record { near = m; far = far_beat f })) (sym k.1)
    (record { q = q; y = y; steady = record { asked = h.asked; answered = e; down = resent q n h; up = up }; stage = b k.0 }))
    (near_beat_is (near_empty n) h.waits h.beats)

-- the phases of a round that begins with no earlier request on the way down
record Phases (q y : ℕ) (G : ℕ → Type 0) (p : Pair) : Type 0 where
  up : Upward G (IsDown q p.near.serial) q p
  down : (Quiet p.far.link.got p.far.link.next p.far.last (far_down p) × (HasRequest (near_up p).sent → p.far.link.got ≡ Some q)) ⊎ Told q p.far.link.next p.near.serial (far_down p)

phases : (q y : ℕ) (G : ℕ → Type 0) (p : Pair) → Waiting p → after q ≡ p.near.link.next → AllByRecursion (IsDown q p.near.serial) p.near.sent
    → AllByRecursion (IsFrom G) p.far.sent → (near_up p).waits ≡ true → Phases q y G p
phases q y G p w a d g t =
    let u : Upward G (IsDown q p.near.serial) q p = upward G (IsDown q p.near.serial) q p (λ s. tt) w a d g t in
    record {
      up = u;
      down = far_outcome q p.near.serial p.far.link.next p.far.last p.far.link.got (far_empty p.far) (near_up p).sent w.told u.kept.sent
          (record { got = refl; next = refl; last = refl; current = w.there; sent = tt });
    }

-- two worlds after the first, the bound is that of the next asking, of one that is swallowed, and of an answer that is
resting : (t : ℕ) (p : Pair) → 50 ≤ t → Resting t p
resting t p l = record { once = 16; more = 16; request = (λ e. omega arith); answer = (λ e. omega arith); bound = omega arith }

pub fresh_round : (t : ℕ) (p : Pair) → 50 ≤ t → Waiting p → Fresh p → (near_up p).waits ≡ true → SteadyLeft t (pass_round p)
fresh_round t p l w f e =
    let h : Phases f.q w.answered.0 (λ s. ⊤) p = phases f.q w.answered.0 (λ s. ⊤) p w f.asked f.down (any_from p.far.sent) e in
    ⊎_elim
    (λ (k : Quiet p.far.link.got p.far.link.next p.far.last (far_down p) × (HasRequest (near_up p).sent → p.far.link.got ≡ Some f.q)).
    finish f.q w.answered.0 t (near_up p) (far_down p) h.up.is (w.answered.1 ∙ sym k.0.next)
    (up_quiet p.far.link.got p.far.link.next p.far.last w.answered.0 (far_down p) w.answered.1 k.0)
    (λ z. inl (resting t (asked_pair (near_up p) (far_down p)) l)) (λ z. inl (resting t (older_pair (near_up p) (far_down p)) l)))
    (λ (k : Told f.q p.far.link.next p.near.serial (far_down p)).
    finish f.q p.far.link.next t (near_up p) (far_down p) h.up.is (sym k.next)
    (up_told f.q p.far.link.next p.near.serial (far_down p) k)
    (λ z. inl (resting t (asked_pair (near_up p) (far_down p)) l)) (λ z. inl (resting t (older_pair (near_up p) (far_down p)) l)))
    h.down

-- what the bridge received last is what it was, or an answer before the next
still : (y z : ℕ) (p : Pair) (n : Near) → after y ≡ z → (n.link.got ≡ p.near.link.got) ⊎ ((v : ℕ) × (n.link.got ≡ Some v) × (v ≡ y))
    → n.link.got ≡ Some z → p.near.link.got ≡ Some z
still y z p n a k e =
    ⊎_elim
    (λ (h : n.link.got ≡ p.near.link.got). sym h ∙ e)
    (λ (h : (v : ℕ) × (n.link.got ≡ Some v) × (v ≡ y)).
    let b : h.0 ≡ z = same_Some h.0 z (sym h.1 ∙ e) in absurd (after_ne y (a ∙ sym b ∙ h.2)))
    k

-- nothing is answered in this round: the next asking is nearer
quiet_round : (q y t : ℕ) (p : Pair) → Waiting p → Steady q y p → Resting (t + 1) p
    → Upward (λ s. s ≡ y) (IsDown q p.near.serial) q p → Quiet p.far.link.got p.far.link.next p.far.last (far_down p)
    → SteadyLeft t (pass_round p)
quiet_round q y t p w s r u k =
    let n : Near = near_up p in
    let f : Far = far_down p in
    let b : (near_up p).beats ≡ p.near.beats = u.kept.beats in
    let bound : 18 + r.once + r.more ≤ t + 1 + p.near.beats = r.bound in
    let nn : (near_up p).link.next ≡ p.near.link.next = u.kept.next in
    let answer : (near_up p).link.got ≡ Some (far_down p).link.next → 16 ≤ r.more =
    λ e. r.answer (still y p.far.link.next p (near_up p) s.answered u.kept.got (e ∙ ap (λ v. Some v) k.next)) in
    finish q y t (near_up p) (far_down p) u.is (s.answered ∙ sym k.next) (up_quiet p.far.link.got p.far.link.next p.far.last y (far_down p) s.answered k)
    (λ z.
    ⊎_elim
    (λ (e : p.far.link.got ≡ Some (near_up p).link.next).
    let o : 16 ≤ r.once = r.request (e ∙ ap (λ v. Some v) nn) in
    inl (record {
      once = 0;
      more = r.more;
      request = (λ g. absurd (after_ne (near_up p).link.next (same_Some _ _ (sym g ∙ k.got ∙ e))));
      answer = answer;
      bound = omega arith;
    }))
    (λ (e : p.far.link.got ≡ Some (near_up p).link.next → ⊥).
    inr (inl (record { more = r.more; has = tt; other = (λ g. e (sym k.got ∙ g)); now = refl; answer = answer; bound = omega arith })))
    (got-is p.far.link.got (near_up p).link.next))
    (λ z. inl (record {
      once = r.once;
      more = r.more;
      request = (λ g. r.request (sym k.got ∙ g ∙ ap (λ v. Some v) nn));
      answer = answer;
      bound = omega arith;
    }))

-- the request is answered in this round: the answer will be taken, or is taken for a repetition, and the next will not be
told_round : (q y t more : ℕ) (p : Pair) → Waiting p → Steady q y p
    → (p.near.link.got ≡ Some p.far.link.next → 16 ≤ more) → 2 + more ≤ t + 1 + p.near.beats → 2 ≤ t + 1 → (p.near.beats + 1 ≡ 16 → 2 + more ≤ t + 1) → 18 ≤ t + p.near.beats + 1 ⊎ (more < 16)
    → Upward (λ s. s ≡ y) (IsDown q p.near.serial) q p → Told q p.far.link.next p.near.serial (far_down p)
    → SteadyLeft t (pass_round p)
told_round q y t more p w s answer bound two late enough u k =
    let b : (near_up p).beats ≡ p.near.beats = u.kept.beats in
    let nn : (near_up p).link.next ≡ p.near.link.next = u.kept.next in
    let up : AllByRecursion (IsUp p.far.link.next (far_down p).last) (far_beat (far_down p)).sent = up_told q p.far.link.next p.near.serial (far_down p) k in
    ⊎_elim
    (λ (e : (near_up p).link.got ≡ Some p.far.link.next).
    let m : 16 ≤ more = answer (still y p.far.link.next p (near_up p) s.answered u.kept.got e) in
    let done : (near_up p).link.got ≡ Some (far_down p).link.next → 16 ≤ 0 =
    λ g. absurd (after_ne p.far.link.next (same_Some _ _ (ap (λ v. Some v) (sym k.next) ∙ sym g ∙ e))) in
    finish q p.far.link.next t (near_up p) (far_down p) u.is (sym k.next) up
    (λ z. inr (inl (record {
      more = 0;
      has = tt;
      other = (λ g. absurd (after_ne q (s.asked ∙ sym nn ∙ same_Some _ _ (sym g ∙ k.got))));
      now = refl;
      answer = done;
      bound = (let l : 2 + more ≤ t + 1 = late (omega arith) in omega arith);
    })))
    (λ z. inl (record {
      once = 0;
      more = 0;
      request = (λ g. absurd (after_ne q (s.asked ∙ sym nn ∙ same_Some _ _ (sym g ∙ k.got))));
      answer = done;
      bound = ⊎_elim (λ (l : 18 ≤ t + p.near.beats + 1). omega arith) (λ (l : more < 16). absurd (omega arith)) enough;
    })))
    (λ (e : (near_up p).link.got ≡ Some p.far.link.next → ⊥).
    let has : HasAnswer (far_beat (far_down p)).sent = has_answer_join (far_down p).sent (hello_words (now (far_down p) == 1) ((far_down p).last == 0) ++ again Answer (far_down p).link.sending) k.has in
    let last : (far_down p).last ≡ (near_up p).serial = k.last ∙ sym u.kept.serial in
    finish q p.far.link.next t (near_up p) (far_down p) u.is (sym k.next) up
    (λ z. inr (inr (record { has = has; other = e; last = last; bound = omega arith })))
    (λ z. inr (inr (record { has = has; other = e; last = last; bound = omega arith }))))
    (got-is (near_up p).link.got p.far.link.next)

-- a round of Pass alone in which nothing is answered
pub steady_round : (t : ℕ) (p : Pair) → Waiting p → SteadyLeft (t + 1) p → (near_up p).waits ≡ true → SteadyLeft t (pass_round p)
steady_round t p w l e =
    let q : ℕ = l.q in
    let y : ℕ = l.y in
    let s : Steady l.q l.y p = l.steady in
    let bb : p.near.beats < 16 = w.beats in
    let h : Phases l.q l.y (λ v. v ≡ l.y) p = phases l.q l.y (λ v. v ≡ l.y) p w s.asked s.down (up_from l.y p.far.last p.far.sent s.up) e in
    ⊎_elim
    (λ (r : Resting (t + 1) p).
    let bound : 18 + r.once + r.more ≤ t + 1 + p.near.beats = r.bound in
    ⊎_elim
    (λ (k : Quiet p.far.link.got p.far.link.next p.far.last (far_down p) × (HasRequest (near_up p).sent → p.far.link.got ≡ Some l.q)).
    quiet_round l.q l.y t p w s r h.up k.0)
    (λ (k : Told l.q p.far.link.next p.near.serial (far_down p)).
    told_round l.q l.y t r.more p w s r.answer (omega arith) (omega arith) (λ z. omega arith) (inl (omega arith)) h.up k)
    h.down)
    (λ (c : Asking l.q (t + 1) p ⊎ Coming l.y (t + 1) p).
    ⊎_elim
    (λ (r : Asking l.q (t + 1) p).
    let bound : 2 + r.more ≤ t + 1 = r.bound in
    let now : p.near.beats ≡ 0 = r.now in
    ⊎_elim
    (λ (k : Quiet p.far.link.got p.far.link.next p.far.last (far_down p) × (HasRequest (near_up p).sent → p.far.link.got ≡ Some l.q)).
    absurd (r.other (k.1 (has_all p.near p.far.sent r.has))))
    (λ (k : Told l.q p.far.link.next p.near.serial (far_down p)).
    told_round l.q l.y t r.more p w s r.answer (omega arith) (omega arith) (λ z. omega arith)
    (⊎_elim (λ (a : 16 ≤ r.more). inl (omega arith)) (λ (a : r.more < 16). inr a) (cases_le 16 r.more)) h.up k)
    h.down)
    (λ (r : Coming l.y (t + 1) p).
    let taken : (near_up p).waits ≡ false =
    answer_taken l.y p.near p.far.sent w.waits r.other (subst (λ v. AllByRecursion (IsUp l.y v) p.far.sent) r.last s.up) r.has in
    absurd (cc))
    c)
    l.stage
