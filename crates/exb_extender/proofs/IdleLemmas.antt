-- What beats do to an extender that rests.
use Rattle.std.proofs.Common.{◌≡◌, ℕ, ◌+◌, ◌-◌, ◌%◌, ◌<◌, true, false, List, [], refl, ap, sym, ◌∙◌, arith, inl, inr}
use Rattle.std.specs.Prelude.{is_none, Option, Some, None}
use Rattle.std.proofs.lemmas.Bool.{cases_eq, cases_Bool, ne_eqb, and_parts, false≢true}
use Rattle.exb_ecp.specs.StopAndWait.{State, Sending, aged, beaten}
use Rattle.exb_extender.specs.Forwarding.{Sent}
use Rattle.exb_extender.specs.Machine.{ExtenderState, next_count, beats}
use Rattle.exb_extender.specs.IdleExtender.{rests, rested}
use Rattle.exb_extender.specs.Laws.{RestsThroughBeats}

none_is : (x : Option Sending) → is_none x ≡ true → x ≡ None
none_is None e = refl
none_is (Some y) e = absurd (false≢true e)

-- of one that rests
module _ (s : ExtenderState) (rest : rests s ≡ true) where
  is_open : s.opened ≡ true
  is_open = (and_parts s.opened (is_none s.ecp.sending) rest).0

  pub is_quiet : s.ecp.sending ≡ None
  is_quiet = none_is s.ecp.sending (and_parts s.opened (is_none s.ecp.sending) rest).1

  -- so many beats have passed
  pub rested_is : (n : ℕ) → rested n s ≡ record s { beats = (s.beats + n) % 16 }
  unfolding rested
  rested_is n = rw rest refl

  ecp_stays : beaten s.ecp ≡ s.ecp
  ecp_stays = ap (λ (x : Option Sending). record s.ecp { sending = x }) (ap aged is_quiet ∙ sym is_quiet)

  -- a beat is counted
  pub beat_counts : (beats s).0 ≡ record s { beats = next_count s.beats }
  unfolding beats
  beat_counts = ap (λ (e : State). record s { ecp = e; beats = next_count s.beats }) ecp_stays

  -- and nothing is sent
  pub beat_silent : (beats s).1 ≡ []
  unfolding beats
  beat_silent = rw (is_open, is_quiet) refl

-- any other stays as it is
pub awake_is : (n : ℕ) (s : ExtenderState) → rests s ≡ false → rested n s ≡ s
unfolding rested
awake_is n s awake = rw awake refl

-- it rests as before
pub rests_rested : (n : ℕ) (s : ExtenderState) → rests (rested n s) ≡ rests s
rests_rested n s =
    elim (cases_Bool (rests s)) [
      | inl e ↦ ap rests (rested_is s e n)
      | inr e ↦ ap rests (awake_is n s e)
    ]

-- its tables and its end of the transport are as before
pub same_tables : (n : ℕ) (s : ExtenderState) → (rested n s).tables ≡ s.tables
same_tables n s =
    elim (cases_Bool (rests s)) [
      | inl e ↦ ap (λ (t : ExtenderState). t.tables) (rested_is s e n)
      | inr e ↦ ap (λ (t : ExtenderState). t.tables) (awake_is n s e)
    ]

pub same_end : (n : ℕ) (s : ExtenderState) → (rested n s).ecp ≡ s.ecp
same_end n s =
    elim (cases_Bool (rests s)) [
      | inl e ↦ ap (λ (t : ExtenderState). t.ecp) (rested_is s e n)
      | inr e ↦ ap (λ (t : ExtenderState). t.ecp) (awake_is n s e)
    ]

-- ---- the count
next_of : (b : ℕ) → b < 16 → next_count b ≡ (b + 1) % 16
next_of b low =
    elim (cases_eq b 15) [
      | inl e ↦ rw e refl
      | inr e ↦ rw (ne_eqb b 15 e) (omega (arith, low, e))
    ]

-- one beat more has passed
pub one_more : (n : ℕ) (s : ExtenderState) → rests s ≡ true → rested ((n + 1) % 16) s ≡ (beats (rested n s)).0
one_more n s rest =
    let counted : (s.beats + (n + 1) % 16) % 16 ≡ ((s.beats + n) % 16 + 1) % 16 = omega arith in
    let next : ((s.beats + n) % 16 + 1) % 16 ≡ next_count ((s.beats + n) % 16) = sym (next_of ((s.beats + n) % 16) (omega arith)) in
    rested_is s rest ((n + 1) % 16)
    ∙ ap (λ (b : ℕ). record s { beats = b }) (counted ∙ next)
    ∙ sym (beat_counts (record s { beats = (s.beats + n) % 16 }) rest)
    ∙ ap (λ (t : ExtenderState). (beats t).0) (sym (rested_is s rest n))

-- so many beats have passed, and the rest of sixteen: it is as it was
pub all_round : (n : ℕ) (s t : ExtenderState) → n < 16 → s.beats < 16 → t ≡ rested (16 - n) s → rested n t ≡ s
all_round n s t few low is =
    elim (cases_Bool (rests s)) [
      | inl e ↦
          let back : t ≡ record s { beats = (s.beats + (16 - n)) % 16 } = is ∙ rested_is s e (16 - n) in
          let same : ((s.beats + (16 - n)) % 16 + n) % 16 ≡ s.beats = omega (arith, few, low) in
          ap (rested n) back
          ∙ rested_is (record s { beats = (s.beats + (16 - n)) % 16 }) e n
          ∙ ap (λ (b : ℕ). record s { beats = b }) same
      | inr e ↦ ap (rested n) (is ∙ awake_is (16 - n) s e) ∙ awake_is n s e
    ]

-- ---- the law
pub through_beats : RestsThroughBeats
through_beats = record { beat = λ s rest low. one_beat s rest low; goes_on = rests_rested }
  where
    one_beat : (s : ExtenderState) → rests s ≡ true → s.beats < 16 → beats s ≡ (rested 1 s, [])
    one_beat s rest low =
        let state : (beats s).0 ≡ rested 1 s = beat_counts s rest ∙ ap (λ (b : ℕ). record s { beats = b }) (next_of s.beats low) ∙ sym (rested_is s rest 1) in
        ap (λ (t : ExtenderState). (t, (beats s).1)) state ∙ ap (λ (xs : List Sent). (rested 1 s, xs)) (beat_silent s rest)
