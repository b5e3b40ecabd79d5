-- Settling: what a round leaves of it.
use Rattle.std.proofs.Common.{◌≡◌, inl, inr, ⊎_elim, ℕ, zero, suc, ◌+◌, ◌*◌, ◌≤◌, ◌<◌, true, false, List, [], ◌∷◌, refl, ap, sym, ◌∙◌, subst, arith}
use Rattle.std.proofs.lemmas.Bool.{cases_Bool, false≢true}
use Rattle.std.proofs.lemmas.Nat.{mul-le}
use Rattle.exb_model.specs.declared.setup.Verdict.{Verdict}
use Rattle.exb_model.specs.Tree.{Shape}
use Rattle.exb_model.specs.Setup.{Limits}
use Rattle.exb_link.specs.declared.link_frame.LinkFrame.{LinkFrame}
use Rattle.exb_link.specs.LinkFrames.{is_control}
use Rattle.exb_world_spec.specs.Settling.{Direction, directions, gone_through, goes_through, is_settled, nothing, round, run, settled_within, through_all, Played, played_before}
use Rattle.exb_world_spec.specs.Steps.{words_on}
use Rattle.exb_world_spec.specs.Worlds.{World, Way}
use Rattle.exb_settling_laws.specs.SettlingBound.{costs}
use Rattle.exb_settling_laws.specs.SettlingLaws.{RoundsSpend, IsPassing}
use Rattle.exb_schedule.specs.Rounds.{rounds_made}

no_verdicts : (n : ℕ) (way : Way) (k : ℕ) (xs : List LinkFrame) → (gone_through n way k xs []).verdicts ≡ []
unfolding gone_through
no_verdicts n way k [] = refl
no_verdicts n way k (x ∷ xs) = elim (cases_Bool (is_control x)) [ inl e ↦ rw e (no_verdicts n way k xs) | inr e ↦ rw e (no_verdicts n way k xs) ]

module _ (t : Shape) (l : Limits) where
  all_pass : (ds : List Direction) (w : World) → (through_all t l ds w []).verdicts ≡ []
  unfolding through_all
  all_pass [] w = refl
  all_pass (d ∷ ds) w = rw (no_verdicts d.link d.way 0 (words_on d.link d.way w)) (all_pass ds (run t l (goes_through d w []).steps w).world)

  abbrev pub after_round : World → List Verdict → World
  after_round w vs = (round t l w vs).done.world

  abbrev pub left_over : World → List Verdict → List Verdict
  left_over w vs = (round t l w vs).verdicts

  abbrev pub Ends : ℕ → World → List Verdict → Type 0
  Ends n w vs = is_settled t (settled_within t l n w vs).done.world ≡ true

  pub one_more : (n : ℕ) (w : World) (vs : List Verdict) → is_settled t w ≡ false → settled_within t l (suc n) w vs ≡ played_before (round t l w vs).done (settled_within t l n (after_round w vs) (left_over w vs))
  unfolding settled_within
  one_more n w vs e = rw e refl

  pub no_more : (n : ℕ) (w : World) (vs : List Verdict) → is_settled t w ≡ true → settled_within t l n w vs ≡ record { done = nothing w; verdicts = vs }
  unfolding settled_within
  no_more zero w vs e = refl
  no_more (suc n) w vs e = rw e refl

  pub none_left : (n : ℕ) (w : World) (vs : List Verdict) → is_settled t w ≡ true → rounds_made t l n w vs ≡ 0
  unfolding rounds_made
  none_left zero w vs e = refl
  none_left (suc n) w vs e = rw e refl

  pub some_left : (n : ℕ) (w : World) (vs : List Verdict) → is_settled t w ≡ false → rounds_made t l (suc n) w vs ≡ suc (rounds_made t l n (after_round w vs) (left_over w vs))
  unfolding rounds_made
  some_left n w vs e = rw e refl

  ends_now : (w : World) (vs : List Verdict) → Ends zero w vs → is_settled t w ≡ true
  unfolding settled_within
  ends_now w vs h = h

  pub ends_next : (n : ℕ) (w : World) (vs : List Verdict) → is_settled t w ≡ false → Ends (suc n) w vs → Ends n (after_round w vs) (left_over w vs)
  ends_next n w vs e h = subst (λ (p : Played). is_settled t p.done.world ≡ true) (one_more n w vs e) h

  -- where it ends and isn't settled, a round is left
  pub some_round : (n : ℕ) (w : World) (vs : List Verdict) → is_settled t w ≡ false → Ends n w vs → (m : ℕ) × (n ≡ suc m)
  some_round zero w vs e h = absurd (false≢true (sym e ∙ ends_now w vs h))
  some_round (suc n) w vs e h = (n, refl)

  -- one more is never made
  same_made : (n : ℕ) (w : World) (vs : List Verdict) → Ends n w vs → rounds_made t l (suc n) w vs ≡ rounds_made t l n w vs
  same_made zero w vs h = (let e = ends_now w vs h in none_left (suc zero) w vs e ∙ sym (none_left zero w vs e))
  same_made (suc n) w vs h =
      elim (cases_Bool (is_settled t w)) [
        | inl e ↦ none_left (suc (suc n)) w vs e ∙ sym (none_left (suc n) w vs e)
        | inr e ↦ some_left (suc n) w vs e ∙ (ap (λ (m : ℕ). suc m) (same_made n (after_round w vs) (left_over w vs) (ends_next n w vs e h)) ∙ sym (some_left n w vs e))
      ]

  same_ends : (n : ℕ) (w : World) (vs : List Verdict) → Ends n w vs → Ends (suc n) w vs
  same_ends zero w vs h = subst (λ (p : Played). is_settled t p.done.world ≡ true) (sym (no_more (suc zero) w vs (ends_now w vs h))) (ends_now w vs h)
  same_ends (suc n) w vs h =
      elim (cases_Bool (is_settled t w)) [
        | inl e ↦ subst (λ (p : Played). is_settled t p.done.world ≡ true) (sym (no_more (suc (suc n)) w vs e)) e
        | inr e ↦ subst (λ (p : Played). is_settled t p.done.world ≡ true) (sym (one_more (suc n) w vs e)) (same_ends n (after_round w vs) (left_over w vs) (ends_next n w vs e h))
      ]

  -- any greater bound serves
  pub more_made : (k n : ℕ) (w : World) (vs : List Verdict) → Ends n w vs → (rounds_made t l (k + n) w vs ≡ rounds_made t l n w vs) × Ends (k + n) w vs
  more_made zero n w vs h = (let e : 0 + n ≡ n = omega arith in (ap (λ (m : ℕ). rounds_made t l m w vs) e, subst (λ (m : ℕ). Ends m w vs) (sym e) h))
  more_made (suc k) n w vs h =
      let r = more_made k n w vs h in
      let e : suc k + n ≡ suc (k + n) = omega arith in
      (ap (λ (m : ℕ). rounds_made t l m w vs) e ∙ (same_made (k + n) w vs r.1 ∙ r.0), subst (λ (m : ℕ). Ends m w vs) (sym e) (same_ends (k + n) w vs r.1))

  pub left_within : (n : ℕ) (w : World) (vs : List Verdict) → rounds_made t l n w vs ≤ n
  unfolding rounds_made
  left_within zero w vs = omega arith
  left_within (suc n) w vs = elim (cases_Bool (is_settled t w)) [ inl e ↦ rw e (omega arith) | inr e ↦ rw e (let h = left_within n (after_round w vs) (left_over w vs) in omega arith) ]

  -- ---- how many rounds are left at most, where each word passes
  pub passes_nothing : (w : World) → left_over w [] ≡ []
  unfolding round
  passes_nothing w = all_pass (directions t) w

  pass_left : (k n : ℕ) (w : World) → is_settled t w ≡ false → Ends n w [] → (left_over w [] ≡ []) → suc (rounds_made t l (k + n) (after_round w []) []) ≡ rounds_made t l (k + n) w []
  pass_left k zero w e h none = absurd (false≢true (sym e ∙ ends_now w [] h))
  pass_left k (suc n) w e h none =
      let after : Ends n (after_round w []) [] = subst (λ (vs : List Verdict). Ends n (after_round w []) vs) none (ends_next n w [] e h) in
      let here : rounds_made t l (suc n) w [] ≡ suc (rounds_made t l n (after_round w []) []) = some_left n w [] e ∙ ap (λ (vs : List Verdict). suc (rounds_made t l n (after_round w []) vs)) none in
      let far : rounds_made t l (k + suc n) (after_round w []) [] ≡ rounds_made t l n (after_round w []) [] =
      ap (λ (m : ℕ). rounds_made t l m (after_round w []) []) (swap k n) ∙ (more_made (suc k) n (after_round w []) [] after).0 in
      ap (λ (m : ℕ). suc m) far ∙ (sym here ∙ sym (more_made k (suc n) w [] h).0)
    where
      swap : (k n : ℕ) → k + suc n ≡ suc k + n
      swap k n = omega arith

  pub passes_less : RoundsSpend → (k n : ℕ) (w : World) (asked : List Verdict) → is_settled t w ≡ false → Ends n w [] → left_over w [] ≡ [] → costs asked ≡ 0 →
      suc (rounds_made t l (k + n) (after_round w asked) []) ≡ rounds_made t l (k + n) w []
  passes_less law k n w asked e h none free =
      ⊎_elim
      (λ (less : costs (round t l w asked).verdicts < costs asked). absurd (omega (arith, less, free)))
      (λ (p : IsPassing t l w asked). ap (λ (v : World). suc (rounds_made t l (k + n) v [])) p.world ∙ pass_left k n w e h none)
      (law t l w asked)

-- ---- the measure: a verdict that isn't Pass may cost all rounds, and else there is one round less
pub measured : (budget less most still later : ℕ) → less < budget → later ≤ most → less * (most + 1) + later < budget * (most + 1) + still
measured budget less most still later low few =
    let h : (less + 1) * (most + 1) ≤ budget * (most + 1) = mul-le (less + 1) (most + 1) budget (most + 1) (omega (arith, low)) (omega arith) in
    let split : (less + 1) * (most + 1) ≡ less * (most + 1) + (most + 1) = by_product less (most + 1) in
    omega (arith, h, split, few)
  where
    by_product : (a b : ℕ) → (a + 1) * b ≡ a * b + b
    by_product a b = omega arith
