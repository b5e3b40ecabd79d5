-- Each round in which each word passes brings the answer nearer.
use Rattle.std.proofs.Common.{◌≡◌, inl, ⊎_elim, ℕ, ◌+◌, ◌≤◌, ◌<◌, true, false, List, [], ◌∷◌, Option, Some, None, refl, sym, ◌∙◌, subst, arith}
use Rattle.std.specs.Prelude.{⊤}
use Rattle.std.specs.List.{AllByRecursion}
use Rattle.exb_settling_laws.specs.StopAndWait.{Message, Request, Answer, Ack, Hello, Sending, aged, again}
use Rattle.exb_ecp.specs.StopAndWait.{after}
use Rattle.exb_settling_laws.specs.SessionPair.{Near, Far, Pair, near_beat, near_beats, near_empty, near_up, far_empty, far_beat, far_down, pass_round}
use Rattle.exb_settling_laws.specs.SessionMessages.{IsDown, IsCurrent}
use Rattle.exb_settling_laws.specs.AnswerStages.{IsOld, Waiting, Fresh}
use Rattle.exb_settling_laws.proofs.SequenceNumbers.{after_same}
use Rattle.exb_settling_laws.proofs.MessageLists.{current_aged, again_down}
use Rattle.exb_settling_laws.proofs.FarSteps.{Sound, sound_all}
use Rattle.exb_settling_laws.proofs.NearSteps.{IsFrom, Kept, kept_all, near_beat_is}

-- a pair after the two phases and before the beat
abbrev pub beaten : Near → Far → Pair
beaten n f = record { near = near_beat (near_empty n); far = far_beat f }

-- the bridge's end after the upward phase
pub record NearIs (q : ℕ) (n : Near) : Type 0 where
  pub waits : n.waits ≡ true
  pub beats : n.beats < 16
  pub asked : after q ≡ n.link.next
  pub current : IsCurrent n.link.next n.serial n.link.sending

pub again_old : (c n : ℕ) (o : Option Sending) → IsCurrent n c o → AllByRecursion (IsOld c) (again Request o)
again_old c n None h = tt
again_old c n (Some x) h =
    elim (Rattle.exb_settling_laws.specs.StopAndWait.is_due (x.beats + 1)) as (λ b. AllByRecursion (IsOld c) (Rattle.exb_settling_laws.specs.StopAndWait.one_if b (Request x.sequence x.serial))) [
      | true ↦ (let e : x.serial ≡ c = h.1 in let l : x.serial ≤ c = omega arith in l, tt)
      | false ↦ tt
    ]

-- what holds in each world holds after a beat
pub waiting_after : (q : ℕ) (n : Near) (f : Far) → NearIs q n → Sound n.serial f → Waiting (beaten n f)
waiting_after q n f h k =
    let there : IsCurrent f.link.next f.last (aged f.link.sending) = current_aged _ _ _ k.current in
    ⊎_elim
    (λ (b : (n.beats + 1 ≡ 16) × (near_beat (near_empty n) ≡ near_beats true (near_empty n))).
    subst (λ m. Waiting (record { near = m; far = far_beat f })) (sym b.1) (record {
      waits = h.waits;
      beats = omega arith;
      told = k.told;
      here = (refl, refl);
      there = there;
      asked = (n.link.next, refl);
      answered = k.answered;
      old = (omega arith, tt);
    }))
    (λ (b : (n.beats + 1 < 16) × (near_beat (near_empty n) ≡ near_beats false (near_empty n))).
    subst (λ m. Waiting (record { near = m; far = far_beat f })) (sym b.1) (record {
      waits = h.waits;
      beats = b.0;
      told = k.told;
      here = current_aged _ _ _ h.current;
      there = there;
      asked = (q, h.asked);
      answered = k.answered;
      old = again_old n.serial n.link.next n.link.sending h.current;
    }))
    (near_beat_is (near_empty n) h.waits h.beats)

-- what is sent again is the request asked last
pub resent : (q : ℕ) (n : Near) → NearIs q n → AllByRecursion (IsDown q n.serial) (again Request n.link.sending)
resent q n h = again_down q n.serial n.link.sending (subst (λ t. IsCurrent t n.serial n.link.sending) (sym h.asked) h.current) (λ s e. after_same s q e)

-- after a beat no earlier request stands on the way down
pub fresh_after : (q : ℕ) (n : Near) (f : Far) → NearIs q n → Fresh (beaten n f)
fresh_after q n f h =
    ⊎_elim
    (λ (b : (n.beats + 1 ≡ 16) × (near_beat (near_empty n) ≡ near_beats true (near_empty n))).
    subst (λ m. Fresh (record { near = m; far = far_beat f })) (sym b.1) (record { q = n.link.next; asked = refl; down = ((refl, refl), tt) }))
    (λ (b : (n.beats + 1 < 16) × (near_beat (near_empty n) ≡ near_beats false (near_empty n))).
    subst (λ m. Fresh (record { near = m; far = far_beat f })) (sym b.1) (record { q = q; asked = h.asked; down = resent q n h }))
    (near_beat_is (near_empty n) h.waits h.beats)

-- the upward phase
pub record Upward (G : ℕ → Type 0) (D : Message → Type 0) (q : ℕ) (p : Pair) : Type 0 where
  pub kept : Kept G D p.near (near_up p)
  pub is : NearIs q (near_up p)

pub upward : (G : ℕ → Type 0) (D : Message → Type 0) (q : ℕ) (p : Pair) → ((s : ℕ) → D (Ack s)) → Waiting p → after q ≡ p.near.link.next
    → AllByRecursion D p.near.sent → AllByRecursion (IsFrom G) p.far.sent → (near_up p).waits ≡ true → Upward G D q p
upward G D q p acks w a d g t =
    ⊎_elim
    (λ (e : (near_up p).waits ≡ false). absurd (cc))
    (λ (k : Kept G D p.near (near_up p)). record {
      kept = k;
      is = record {
        waits = t;
        beats = (let b : p.near.beats < 16 = w.beats in let c : (near_up p).beats ≡ p.near.beats = k.beats in omega arith);
        asked = a ∙ sym k.next;
        current = subst (λ v. IsCurrent v (near_up p).serial (near_up p).link.sending) (sym k.next) (subst (λ v. IsCurrent p.near.link.next v (near_up p).link.sending) (sym k.serial) k.current);
      };
    })
    (kept_all G D acks p.near p.near p.far.sent g (record { waits = w.waits; next = refl; serial = refl; beats = refl; got = inl refl; current = w.here; sent = d }))

pub any_from : (ms : List Message) → AllByRecursion (IsFrom (λ s. ⊤)) ms
any_from [] = tt
any_from (Request s k ∷ ms) = (tt, any_from ms)
any_from (Answer s k ∷ ms) = (tt, any_from ms)
any_from (Ack s ∷ ms) = (tt, any_from ms)
any_from (Hello ∷ ms) = (tt, any_from ms)

-- a round in which each word passes and nothing is answered, from any world
pub rough_round : (p : Pair) → Waiting p → (near_up p).waits ≡ true → Waiting (pass_round p) × Fresh (pass_round p)
rough_round p w t =
    let u : Upward (λ s. ⊤) (IsOld p.near.serial) w.asked.0 p = upward (λ s. ⊤) (IsOld p.near.serial) w.asked.0 p (λ s. tt) w w.asked.1 w.old (any_from p.far.sent) t in
    let s0 : Sound p.near.serial (far_down p) =
    sound_all p.near.serial (far_empty p.far) (near_up p).sent u.kept.sent (record { told = w.told; current = w.there; answered = w.answered }) in
    let s1 : Sound (near_up p).serial (far_down p) = subst (λ c. Sound c (far_down p)) (sym u.kept.serial) s0 in
    (waiting_after w.asked.0 (near_up p) (far_down p) u.is s1, fresh_after w.asked.0 (near_up p) (far_down p) u.is)
