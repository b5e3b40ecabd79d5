-- A request that waits is answered within 52 rounds of Pass alone.
use Rattle.std.proofs.Common.{◌≡◌, ◌⊎◌, inl, inr, ⊎_elim, ℕ, zero, suc, ◌+◌, ◌≤◌, ◌<◌, true, false, subst, arith}
use Rattle.std.proofs.lemmas.Bool.{cases_Bool}
use Rattle.exb_settling_laws.specs.SessionPair.{Pair, near_up, pass_round}
use Rattle.exb_settling_laws.specs.AnswerStages.{Waiting, Fresh, Resting, Asking, Coming, SteadyLeft, AtMost}
use Rattle.exb_settling_laws.proofs.SessionPairRounds.{rough_round}
use Rattle.exb_settling_laws.proofs.PassingRounds.{fresh_round, steady_round}

pub never_none : (p : Pair) → Waiting p → AtMost 0 p → ⊥
never_none p w l =
    ⊎_elim
    (λ (h : 52 ≤ 0). omega arith)
    (λ (r : ((51 ≤ 0) × Fresh p) ⊎ SteadyLeft 0 p).
    ⊎_elim
    (λ (h : (51 ≤ 0) × Fresh p). let a : 51 ≤ 0 = h.0 in omega arith)
    (λ (h : SteadyLeft 0 p).
    let few : p.near.beats < 16 = w.beats in
    ⊎_elim
    (λ (k : Resting 0 p). let b : 18 + k.once + k.more ≤ 0 + p.near.beats = k.bound in omega arith)
    (λ (k : Asking h.q 0 p ⊎ Coming h.y 0 p). ⊎_elim (λ (a : Asking h.q 0 p). let b : 2 + a.more ≤ 0 = a.bound in omega arith) (λ (a : Coming h.y 0 p). let b : 1 ≤ 0 = a.bound in omega arith) k)
    h.stage)
    r)
    l

-- in each round of Pass alone the request is answered, or the bound falls
pub falls : (t : ℕ) (p : Pair) → Waiting p → AtMost (t + 1) p → (near_up p).waits ≡ true → Waiting (pass_round p) × AtMost t (pass_round p)
falls t p w l e =
    let r : Waiting (pass_round p) × Fresh (pass_round p) = rough_round p w e in (
      r.0,
      ⊎_elim
          (λ (h : 52 ≤ t + 1). inr (inl (omega arith, r.1)))
          (λ (k : ((51 ≤ t + 1) × Fresh p) ⊎ SteadyLeft (t + 1) p).
          ⊎_elim
          (λ (h : (51 ≤ t + 1) × Fresh p). let a : 51 ≤ t + 1 = h.0 in inr (inr (fresh_round t p (omega arith) w h.1 e)))
          (λ (h : SteadyLeft (t + 1) p). inr (inr (steady_round t p w h e)))
          k)
          l,
    )

-- the pair after k rounds of Pass alone
abbrev pub passes : ℕ → Pair → Pair
passes zero p = p
passes (suc k) p = passes k (pass_round p)

pub answered_in : (s : ℕ) (p : Pair) → Waiting p → AtMost s p → (k : ℕ) × (k < s) × ((near_up (passes k p)).waits ≡ false)
answered_in zero p w l = absurd (never_none p w l)
answered_in (suc t) p w l =
    ⊎_elim
    (λ (e : (near_up p).waits ≡ true).
    let h : AtMost (t + 1) p = subst (λ v. AtMost v p) (let a : suc t ≡ t + 1 = omega arith in a) l in
    let f : Waiting (pass_round p) × AtMost t (pass_round p) = falls t p w h e in
    let r : (k : ℕ) × (k < t) × ((near_up (passes k (pass_round p))).waits ≡ false) = answered_in t (pass_round p) f.0 f.1 in
    (suc r.0, (let a : r.0 < t = r.1 in omega arith), r.2))
    (λ (e : (near_up p).waits ≡ false). (zero, omega arith, e))
    (cases_Bool (near_up p).waits)

pub answered_soon : (p : Pair) → Waiting p → (k : ℕ) × (k < 52) × ((near_up (passes k p)).waits ≡ false)
answered_soon p w = answered_in 52 p w (inl (omega arith))
