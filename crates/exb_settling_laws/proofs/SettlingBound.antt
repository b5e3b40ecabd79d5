-- The bound, from what a round does: it costs a verdict, or an exchange that was planned is done, or the stage is nearer its
-- end by one.
use Rattle.std.proofs.Common.{◌≡◌, ◌⊎◌, inl, inr, ℕ, zero, suc, ◌+◌, ◌*◌, ◌≤◌, ◌<◌, true, false, List, sym, subst, arith}
use Rattle.std.proofs.lemmas.Bool.{cases_Bool}
use Rattle.exb_model.specs.declared.setup.Verdict.{Verdict}
use Rattle.exb_model.specs.Tree.{Shape}
use Rattle.exb_model.specs.Setup.{Limits}
use Rattle.exb_world_spec.specs.Worlds.{World}
use Rattle.exb_world_spec.specs.Settling.{is_settled, round, planned_in, rounds_within, settled_within}
use Rattle.exb_settling_laws.specs.SettlingBound.{costs, Stage, SettleEnds}
use Rattle.exb_settling_laws.proofs.VerdictCosts.{IsPassRound, pass_round, round_passes}

-- What is to be shown of a round, and of the stages.
pub record Rounds (t : Shape) (l : Limits) (I : World → Type 0) : Type 0 where
  pub keeps : (w : World) (vs : List Verdict) → I w → I (round t l w vs).done.world
  -- no round plans anything
  pub planned : (w : World) (vs : List Verdict) → I w → planned_in t l (round t l w vs).done.world ≤ planned_in t l w
  -- where each word passes and nothing is done of what is planned, the stage is nearer its end
  pub nearer : (s : ℕ) (w : World) → I w → planned_in t l (pass_round t l w) ≡ planned_in t l w → Stage t (suc s) w → Stage t s (pass_round t l w)
  -- no stage is longer than 52 rounds, and with none left the world is settled
  pub rough : (w : World) → I w → Stage t 52 w
  pub settled : (w : World) → I w → Stage t 0 w → is_settled t w ≡ true

module _ (t : Shape) (l : Limits) (I : World → Type 0) (r : Rounds t l I) where
  abbrev Within : ℕ → World → List Verdict → Type 0
  Within n w vs = is_settled t (settled_within t l n w vs).done.world ≡ true

  already : (n : ℕ) (w : World) (vs : List Verdict) → is_settled t w ≡ true → Within n w vs
  unfolding settled_within
  already zero w vs e = e
  already (suc n) w vs e = rw e e

  one_more : (n : ℕ) (w : World) (vs : List Verdict) → is_settled t w ≡ false → Within n (round t l w vs).done.world (round t l w vs).verdicts → Within (suc n) w vs
  unfolding settled_within
  one_more n w vs e h = rw e h

  -- The budget: a window of 64 rounds for each verdict and each exchange, and what is left of the one that runs.
  abbrev Ends : ℕ → Type 0
  Ends n = (s : ℕ) (w : World) (vs : List Verdict) → I w → Stage t s w → 64 * costs vs + 64 * planned_in t l w + s ≤ n → Within n w vs

  -- a new window begins
  anew : (n : ℕ) → Ends n → (w : World) (vs : List Verdict) → I w → 64 * costs vs + 64 * planned_in t l w + 52 ≤ n → Within n w vs
  anew n ih w vs i few = ih 52 w vs i (r.rough w i) few

  cases_le : (a b : ℕ) → a ≤ b → (a ≡ b) ⊎ (a < b)
  cases_le a b h = elim (Rattle.std.proofs.lemmas.Bool.cases_lt a b) [ inl l ↦ inr l | inr g ↦ inl (omega arith) ]

  by_planned : (n s : ℕ) → Ends n → (w : World) (vs : List Verdict) → I w → Stage t (suc s) w → 64 * costs vs + 64 * planned_in t l w + suc s ≤ suc n → IsPassRound t l w vs →
      (planned_in t l (round t l w vs).done.world ≡ planned_in t l w) ⊎ (planned_in t l (round t l w vs).done.world < planned_in t l w) → Within n (round t l w vs).done.world (round t l w vs).verdicts
  by_planned n s ih w vs i stage few p (inl same) =
      let costs_is : costs (round t l w vs).verdicts ≡ costs vs = p.costs_is in
      let there : planned_in t l (pass_round t l w) ≡ planned_in t l w = subst (λ (v : World). planned_in t l v ≡ planned_in t l w) p.world same in
      let next : Stage t s (round t l w vs).done.world = subst (λ (v : World). Stage t s v) (sym p.world) (r.nearer s w i there stage) in
      ih s (round t l w vs).done.world (round t l w vs).verdicts (r.keeps w vs i) next (omega arith)
  by_planned n s ih w vs i stage few p (inr less) =
      let costs_is : costs (round t l w vs).verdicts ≡ costs vs = p.costs_is in
      anew n ih (round t l w vs).done.world (round t l w vs).verdicts (r.keeps w vs i) (omega arith)

  by_round : (n s : ℕ) → Ends n → (w : World) (vs : List Verdict) → I w → Stage t (suc s) w → 64 * costs vs + 64 * planned_in t l w + suc s ≤ suc n →
      (costs (round t l w vs).verdicts < costs vs) ⊎ IsPassRound t l w vs → Within n (round t l w vs).done.world (round t l w vs).verdicts
  by_round n s ih w vs i stage few (inl less) =
      let low : planned_in t l (round t l w vs).done.world ≤ planned_in t l w = r.planned w vs i in
      anew n ih (round t l w vs).done.world (round t l w vs).verdicts (r.keeps w vs i) (omega arith)
  by_round n s ih w vs i stage few (inr p) = by_planned n s ih w vs i stage few p (cases_le _ _ (r.planned w vs i))

  pub ends_in : (n : ℕ) → Ends n
  ends_in n zero w vs i stage few = already n w vs (r.settled w i stage)
  ends_in zero (suc s) w vs i stage few = absurd (omega arith)
  ends_in (suc n) (suc s) w vs i stage few =
      elim (cases_Bool (is_settled t w)) [
        | inl e ↦ already (suc n) w vs e
        | inr e ↦ one_more n w vs e (by_round n s (ends_in n) w vs i stage few (round_passes t l w vs))
      ]

  pub settle_ends : SettleEnds t l I
  settle_ends b w vs i few = ends_in (rounds_within b (planned_in t l w)) 52 w vs i (r.rough w i) (omega arith)
