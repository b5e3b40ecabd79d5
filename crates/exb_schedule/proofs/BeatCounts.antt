-- Settling raises the number of beats by its answer.
use Rattle.std.proofs.Common.{◌≡◌, ℕ, zero, suc, ◌+◌, ◌-◌, ◌≤◌, ◌^◌, ◌++◌, List, [], ◌∷◌, refl, ap, sym, ◌∙◌, subst, arith, inl, inr}
use Rattle.std.specs.Prelude.{min}
use Rattle.std.proofs.lemmas.Bool.{cases_Bool}
use Rattle.exb_model.specs.declared.setup.Setup.{Setup}
use Rattle.exb_model.specs.declared.setup.Verdict.{Verdict}
use Rattle.exb_model.specs.Setup.{Limits, limits_of, shape_of}
use Rattle.exb_model.specs.Tree.{Shape, IsTree}
use Rattle.exb_world_spec.specs.Settling.{Played, is_settled, round, run, settled_within}
use Rattle.exb_world_spec.specs.Steps.{stepped}
use Rattle.exb_world_spec.specs.Worlds.{World, Step, Arrive, Carry, Control, Lose, Beat, Tick, Order, Mark, next_beat}
use Rattle.exb_world.specs.WorldContracts.{Network, world_of, tree_of, bounds_of}
use Rattle.exb_settling_laws.specs.Rounds.{RoundsAreWhole}
use Rattle.exb_world_spec.specs.Runs.ReachedWorlds.{beginning}
use Rattle.exb_settling_laws.proofs.AgeingAndBeats.{beat_is_counted, step_stays}
use Rattle.exb_schedule.specs.OneBridgeRuns.{SettlingCounts}
use Rattle.exb_schedule.specs.ReachedWorlds.{Reached}
use Rattle.exb_schedule.specs.Rounds.{rounds_made}
use Rattle.exb_schedule.proofs.StepSequences.{gone_world}

-- ---- numbers that stay at a last one
low_again : (b m : ℕ) → b ≤ m → b ≡ min (b + 0) m
low_again b m low = omega (arith, low)

one_then : (b k m : ℕ) → min (min (b + 1) m + k) m ≡ min (b + suc k) m
one_then b k m = omega arith

capped_then : (b k m : ℕ) → min (b + min k m) m ≡ min (b + k) m
capped_then b k m = omega arith

at_most : (a m : ℕ) → min a m ≤ m
at_most a m = omega arith

next_is : (b : ℕ) → next_beat b ≡ min (b + 1) (2 ^ 64 - 1)
unfolding next_beat
next_is b = refl

next_low : (b : ℕ) → next_beat b ≤ 2 ^ 64 - 1
next_low b = subst (λ (n : ℕ). n ≤ 2 ^ 64 - 1) (sym (next_is b)) (at_most (b + 1) (2 ^ 64 - 1))

-- ---- no run counts further
module _ (t : Shape) (l : Limits) where
  abbrev IsLow : World → Type 0
  IsLow w = w.beats ≤ 2 ^ 64 - 1

  same_low : (step : Step) (w : World) → (stepped t l step w).world.beats ≡ w.beats → IsLow w → IsLow (stepped t l step w).world
  same_low step w same low = subst (λ (n : ℕ). n ≤ 2 ^ 64 - 1) (sym same) low

  step_low : (step : Step) (w : World) → IsLow w → IsLow (stepped t l step w).world
  step_low Beat w low = subst (λ (n : ℕ). n ≤ 2 ^ 64 - 1) (sym (beat_is_counted t l w)) (next_low w.beats)
  step_low (Arrive a) w low = same_low (Arrive a) w (step_stays t l (Arrive a) w tt).beats low
  step_low (Carry n way) w low = same_low (Carry n way) w (step_stays t l (Carry n way) w tt).beats low
  step_low (Control n way k keep) w low = same_low (Control n way k keep) w (step_stays t l (Control n way k keep) w tt).beats low
  step_low (Lose n way k) w low = same_low (Lose n way k) w (step_stays t l (Lose n way k) w tt).beats low
  step_low (Tick seconds) w low = same_low (Tick seconds) w (step_stays t l (Tick seconds) w tt).beats low
  step_low (Order c) w low = same_low (Order c) w (step_stays t l (Order c) w tt).beats low
  step_low Mark w low = same_low Mark w (step_stays t l Mark w tt).beats low

  run_low : (steps : List Step) (w : World) → IsLow w → IsLow (run t l steps w).world
  unfolding run
  run_low [] w low = low
  run_low (step ∷ steps) w low = run_low steps (stepped t l step w).world (step_low step w low)

  -- ---- settling
  counted : RoundsAreWhole → IsTree t → (n : ℕ) (w : World) (vs : List Verdict) → IsLow w → (settled_within t l n w vs).done.world.beats ≡ min (w.beats + rounds_made t l n w vs) (2 ^ 64 - 1)
  unfolding settled_within rounds_made
  counted law tree zero w vs low = low_again w.beats (2 ^ 64 - 1) low
  counted law tree (suc n) w vs low =
      elim (cases_Bool (is_settled t w)) [
        | inl e ↦ rw e (low_again w.beats (2 ^ 64 - 1) low)
        | inr e ↦ rw e (
            let v : World = (round t l w vs).done.world in
            let rest : List Verdict = (round t l w vs).verdicts in
            let made : ℕ = rounds_made t l n v rest in
            let one : v.beats ≡ min (w.beats + 1) (2 ^ 64 - 1) = (law t l tree w vs).beats ∙ next_is w.beats in
            counted law tree n v rest (subst (λ (b : ℕ). b ≤ 2 ^ 64 - 1) (sym one) (at_most (w.beats + 1) (2 ^ 64 - 1)))
            ∙ (ap (λ (b : ℕ). min (b + made) (2 ^ 64 - 1)) one ∙ one_then w.beats made (2 ^ 64 - 1)))
      ]

first_low : (s : Setup) → (beginning s).beats ≤ 2 ^ 64 - 1
first_low s = zero_low (2 ^ 64 - 1)
  where
    zero_low : (m : ℕ) → 0 ≤ m
    zero_low m = omega arith

reached_low : (n : Network) → Reached n → (world_of n).beats ≤ 2 ^ 64 - 1
reached_low n k = subst (λ (w : World). w.beats ≤ 2 ^ 64 - 1) (sym k.world) (run_low (shape_of k.setup) (limits_of k.setup) k.steps (beginning k.setup) (first_low k.setup))

pub settling_counts : RoundsAreWhole → SettlingCounts
settling_counts law most made before left old new k s =
    let t : Shape = tree_of old in
    let l : Limits = bounds_of old in
    let w : World = world_of old in
    let vs : List Verdict = s.asked ++ [] in
    let rounds : ℕ = rounds_made t l most w vs in
    let tree : IsTree (tree_of old) = subst IsTree (sym k.tree) k.valid.tree in
    let ends : (world_of new).beats ≡ (settled_within t l most w vs).done.world.beats =
    ap (λ (v : World). v.beats) (gone_world s.done old new s.gone) ∙ sym (ap (λ (p : Played). p.done.world.beats) (s.is [])) in
    ends ∙ (counted t l law tree most w vs (reached_low old k) ∙ (sym (capped_then w.beats rounds (2 ^ 64 - 1)) ∙ ap (λ (m : ℕ). min (w.beats + m) (2 ^ 64 - 1)) (sym (s.counted []))))
