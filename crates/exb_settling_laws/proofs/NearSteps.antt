-- What the bridge does with upward words while its request waits.
use Rattle.std.proofs.Common.{◌≡◌, ◌⊎◌, inl, inr, ⊎_elim, ℕ, ◌+◌, ◌==◌, ◌&&◌, ◌<◌, true, false, List, [], ◌∷◌, ◌++◌, Some, refl, ap, sym, ◌∙◌, subst, arith}
use Rattle.std.specs.Prelude.{⊤}
use Rattle.std.specs.List.{AllByRecursion}
use Rattle.std.proofs.lemmas.Bool.{eqb-true, eqb-false, eq-eqb}
use Rattle.exb_settling_laws.specs.StopAndWait.{Message, Request, Answer, Ack, Hello, is_got}
use Rattle.exb_settling_laws.specs.SessionPair.{Near, near_hears, near_all, near_gets, near_takes, near_beat, near_beats, beats_while, with_got}
use Rattle.exb_settling_laws.specs.SessionMessages.{IsUp, HasAnswer, IsCurrent}
use Rattle.exb_settling_laws.proofs.SequenceNumbers.{got-true}
use Rattle.exb_settling_laws.proofs.MessageLists.{each_push, current_acked}

-- an answer's sequence is such
abbrev pub IsFrom : (ℕ → Type 0) → Message → Type 0
IsFrom G (Request s k) = ⊤
IsFrom G (Answer s k) = G s
IsFrom G (Ack s) = ⊤
IsFrom G Hello = ⊤

-- the request still waits
pub record Kept (G : ℕ → Type 0) (D : Message → Type 0) (n0 n : Near) : Type 0 where
  pub waits : n.waits ≡ true
  pub next : n.link.next ≡ n0.link.next
  pub serial : n.serial ≡ n0.serial
  pub beats : n.beats ≡ n0.beats
  pub got : (n.link.got ≡ n0.link.got) ⊎ ((y : ℕ) × (n.link.got ≡ Some y) × G y)
  pub current : IsCurrent n0.link.next n0.serial n.link.sending
  pub sent : AllByRecursion D n.sent

pub waits_no_more : (n : Near) (m : Message) → n.waits ≡ false → (near_hears n m).waits ≡ false
waits_no_more n (Request s k) h = h
waits_no_more n (Answer s k) h =
    elim (is_got n.link.got s) as (λ b. (near_gets b n s k).waits ≡ false) [
      | true ↦ h
      | false ↦
          let z : (n.waits && (k == n.serial)) ≡ false = rw h refl in
          let g : Near = record { link = with_got n.link s; waits = n.waits; serial = n.serial; beats = n.beats; sent = n.sent ++ Ack s ∷ [] } in
          subst (λ v. (near_takes v g).waits ≡ false) (sym z) h
    ]
waits_no_more n (Ack s) h = h
waits_no_more n Hello h = h

pub waits_never : (n : Near) (ms : List Message) → n.waits ≡ false → (near_all n ms).waits ≡ false
waits_never n [] h = h
waits_never n (m ∷ ms) h = waits_never (near_hears n m) ms (waits_no_more n m h)

pub kept_hears : (G : ℕ → Type 0) (D : Message → Type 0) → ((s : ℕ) → D (Ack s)) → (n0 n : Near) (m : Message) → IsFrom G m
    → Kept G D n0 n → ((near_hears n m).waits ≡ false) ⊎ Kept G D n0 (near_hears n m)
kept_hears G D acks n0 n (Request s k) g h = inr h
kept_hears G D acks n0 n (Answer s k) g h =
    elim (is_got n.link.got s) as (λ b. ((near_gets b n s k).waits ≡ false) ⊎ Kept G D n0 (near_gets b n s k)) [
      | true ↦ inr (record { waits = h.waits; next = h.next; serial = h.serial; beats = h.beats; got = h.got; current = h.current; sent = each_push D _ _ h.sent (acks s) })
      | false ↦
          let x : Near = record { link = with_got n.link s; waits = n.waits; serial = n.serial; beats = n.beats; sent = n.sent ++ Ack s ∷ [] } in
          elim (n.waits && (k == n.serial)) as (λ b. ((near_takes b x).waits ≡ false) ⊎ Kept G D n0 (near_takes b x)) [
            | true ↦ inl refl
            | false ↦ inr (record { waits = h.waits; next = h.next; serial = h.serial; beats = h.beats; got = inr (s, refl, g); current = h.current; sent = each_push D _ _ h.sent (acks s) })
          ]
    ]
kept_hears G D acks n0 n (Ack s) g h =
    inr (record { waits = h.waits; next = h.next; serial = h.serial; beats = h.beats; got = h.got; current = current_acked _ _ s _ h.current; sent = h.sent })
kept_hears G D acks n0 n Hello g h = inr h

pub kept_all : (G : ℕ → Type 0) (D : Message → Type 0) → ((s : ℕ) → D (Ack s)) → (n0 n : Near) (ms : List Message) → AllByRecursion (IsFrom G) ms
    → Kept G D n0 n → ((near_all n ms).waits ≡ false) ⊎ Kept G D n0 (near_all n ms)
kept_all G D acks n0 n [] g h = inr h
kept_all G D acks n0 n (m ∷ ms) g h =
    ⊎_elim
    (λ (e : (near_hears n m).waits ≡ false). inl (waits_never (near_hears n m) ms e))
    (λ (k : Kept G D n0 (near_hears n m)). kept_all G D acks n0 (near_hears n m) ms g.1 k)
    (kept_hears G D acks n0 n m g.0 h)

-- an answer of another sequence than the last received is taken
pub answer_taken : (y : ℕ) (n : Near) (ms : List Message) → n.waits ≡ true → (n.link.got ≡ Some y → ⊥)
    → AllByRecursion (IsUp y n.serial) ms → HasAnswer ms → (near_all n ms).waits ≡ false
answer_taken y n [] w g u h = absurd h
answer_taken y n (Request s k ∷ ms) w g u h = answer_taken y n ms w g u.1 h
answer_taken y n (Answer s k ∷ ms) w g u h =
    let x : Near = record { link = with_got n.link s; waits = n.waits; serial = n.serial; beats = n.beats; sent = n.sent ++ Ack s ∷ [] } in
    let first : (near_gets (is_got n.link.got s) n s k).waits ≡ false =
    elim (is_got n.link.got s) as (λ b. is_got n.link.got s ≡ b → (near_gets b n s k).waits ≡ false) [
      | true ↦ λ e. absurd (g (got-true _ _ e ∙ ap (λ t. Some t) u.0.0))
      | false ↦ λ e.
          let a : (k == n.serial) ≡ true = eq-eqb _ _ u.0.1 in
          let z : (n.waits && (k == n.serial)) ≡ true = rw (w, a) refl in
          subst (λ v. (near_takes v x).waits ≡ false) (sym z) refl
    ] refl in
    waits_never (near_hears n (Answer s k)) ms first
answer_taken y n (Ack s ∷ ms) w g u h =
    answer_taken y (near_hears n (Ack s)) ms w g u.1 h
answer_taken y n (Hello ∷ ms) w g u h = answer_taken y n ms w g u.1 h

-- one beat of the bridge while its request waits
pub near_beat_is : (n : Near) → n.waits ≡ true → n.beats < 16
    → ((n.beats + 1 ≡ 16) × (near_beat n ≡ near_beats true n)) ⊎ ((n.beats + 1 < 16) × (near_beat n ≡ near_beats false n))
near_beat_is n w l =
    elim (n.beats + 1 == 16) as (λ b. (n.beats + 1 == 16) ≡ b → ((n.beats + 1 ≡ 16) × (near_beat n ≡ near_beats true n)) ⊎ ((n.beats + 1 < 16) × (near_beat n ≡ near_beats false n))) [
      | true ↦ λ e. inl (eqb-true _ _ e, ap (λ v. beats_while v n) w ∙ ap (λ v. near_beats v n) e)
      | false ↦ λ e.
          let d : n.beats + 1 ≡ 16 → ⊥ = eqb-false _ _ e in
          let m : n.beats + 1 < 16 = omega arith in
          inr (m, ap (λ v. beats_while v n) w ∙ ap (λ v. near_beats v n) e)
    ] refl
