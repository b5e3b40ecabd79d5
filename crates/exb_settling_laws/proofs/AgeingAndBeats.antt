-- No step changes the ageing time, and none but a beat the number of beats.
use Rattle.std.proofs.Common.{◌≡◌, ℕ, ◌⊎◌, Bool, true, false, cond, List, [], ◌∷◌, Option, Some, None, refl, sym, ◌∙◌, ap, subst, inl, inr}
use Rattle.exb_model.specs.Tree.{Shape}
use Rattle.exb_model.specs.Setup.{Limits}
use Rattle.exb_model.specs.Configuration.{Bridge}
use Rattle.exb_model.specs.Frames.{source, is_group}
use Rattle.exb_model.specs.Learning.{passes}
use Rattle.exb_model.specs.EagerHistory.{is_relayed}
use Rattle.exb_model.specs.declared.arrival.Arrival.{Arrival}
use Rattle.exb_learn.specs.Calls.{Table, Forget, See, after_call}
use Rattle.exb_learn.specs.Histories.{relay_call, after_any}
use Rattle.exb_world_spec.specs.Worlds.{World, Up, Down, Step, Beat, next_beat}
use Rattle.exb_world_spec.specs.Effects.{Effect}
use Rattle.exb_world_spec.specs.BridgeLearning.{forgotten_all, taught}
use Rattle.exb_world_spec.specs.Steps.{beats_all, done_by, stepped}
use Rattle.exb_settling_laws.specs.Rounds.{AgeingStays}
use Rattle.exb_world_spec.proofs.Acts.{Act, moved, Come, Move, Pass, CountBeat, Takes, IsTaken, IsBeat, Why, beat_rest}
use Rattle.exb_world_spec.proofs.Deeds.{Deed, Learn, Send, Words, CountsBeat, deed, IsLearned, Because, by_deeds, step_deeds}

pub record Stays (w v : World) : Type 0 where
  pub beats : v.beats ≡ w.beats
  pub ageing : v.table.ageing ≡ w.table.ageing

pub none_stays : (w : World) → Stays w w
none_stays w = record { beats = refl; ageing = refl }

pub stays_then : (a b c : World) → Stays a b → Stays b c → Stays a c
stays_then a b c x y = record { beats = y.beats ∙ x.beats; ageing = y.ageing ∙ x.ageing }

abbrev pub IsStill : Step → Type 0
IsStill Beat = ⊥
IsStill _ = Unit {0}

forgotten_ageing : (ps : List ℕ) (u : Table) → (forgotten_all ps u).ageing ≡ u.ageing
forgotten_ageing [] u = refl
forgotten_ageing (p ∷ ps) u = forgotten_ageing ps (after_call (Forget p) u)

taught_ageing : (b : Bridge) (a : Arrival) (u : Table) → (taught b a u).ageing ≡ u.ageing
taught_ageing b a u = by_flag (is_relayed b a.port a.bytes)
  where
    by_group : (v : ℕ) (c : Bool) → (after_any (cond c None (Some (See v (source a.bytes) a.port))) u).ageing ≡ u.ageing
    by_group v true = refl
    by_group v false = refl

    by_vid : (o : Option ℕ) → (after_any (relay_call a.port a.bytes o) u).ageing ≡ u.ageing
    by_vid None = refl
    by_vid (Some v) = by_group v (is_group (source a.bytes))

    by_flag : (c : Bool) → (cond c (after_any (relay_call a.port a.bytes (passes b a.port a.bytes)) u) u).ageing ≡ u.ageing
    by_flag true = by_vid (passes b a.port a.bytes)
    by_flag false = refl

learned_ageing : (t : Shape) (l : Limits) (a : Act) (u : World) (old new : Table) → IsLearned t l a u old new → new.ageing ≡ old.ageing
learned_ageing t l (Come b) u old new is = ap (λ (x : Table). x.ageing) is ∙ taught_ageing u.control.bridge b old
learned_ageing t l (Move by) u old new is = ap (λ (x : Table). x.ageing) is ∙ forgotten_ageing (moved t l by u.control).downs old
learned_ageing t l (Pass seconds) u old new is = ap (λ (x : Table). x.ageing) is
learned_ageing t l _ u old new is = absurd is

module _ (t : Shape) (l : Limits) (T : Takes) (w : World) (step : Step) where
  deed_ageing : (a : Act) (u : World) → Why t l T w step a u → (d : Deed) (v : World) → Because t l a u d v → (deed d v).world.table.ageing ≡ v.table.ageing
  deed_ageing a u why (Learn x) v is = learned_ageing t l a u v.table x is
  deed_ageing a u why (Send line n Up x) v is = refl
  deed_ageing a u why (Send line n Down x) v is = refl
  deed_ageing a u why (Words n Up ws) v is = refl
  deed_ageing a u why (Words n Down ws) v is = refl
  deed_ageing a u why _ v is = refl

  -- the beat is counted where it is the first thing that happens
  deed_beats : (a : Act) (u : World) → Why t l T w step a u → (d : Deed) (v : World) → Because t l a u d v → (IsBeat step × (v ≡ w) × ((deed d v).world.beats ≡ next_beat v.beats)) ⊎ ((deed d v).world.beats ≡ v.beats)
  deed_beats a u why CountsBeat v is = (let k : IsBeat step × (u ≡ w) = subst (λ c. Why t l T w step c u) is.0 why in inl (k.0, is.1 ∙ k.1, refl))
  deed_beats a u why (Send line n Up x) v is = inr refl
  deed_beats a u why (Send line n Down x) v is = inr refl
  deed_beats a u why (Words n Up ws) v is = inr refl
  deed_beats a u why (Words n Down ws) v is = inr refl
  deed_beats a u why _ v is = inr refl

no_beat : (step : Step) → IsStill step → IsBeat step → ⊥
no_beat Beat still beat = still
no_beat _ still beat = beat

module _ (t : Shape) (l : Limits) where
  pub step_stays : (step : Step) (w : World) → IsStill step → Stays w (stepped t l step w).world
  unfolding stepped
  step_stays step w still =
      step_deeds t l w step (λ v e. Stays v e.world) (
      record {
        nothing = λ v. record { beats = refl; ageing = refl };
        joins = λ v e f x y. record { beats = y.beats ∙ x.beats; ageing = y.ageing ∙ x.ageing };
        deeds = λ a u why d v is. record { beats = elim (deed_beats t l (IsTaken w step) w step a u why d v is) [ inl h ↦ absurd (no_beat step still h.0) | inr e ↦ e ]; ageing = deed_ageing t l (IsTaken w step) w step a u why d v is };
      })

  step_ageing : (step : Step) (w : World) → (stepped t l step w).world.table.ageing ≡ w.table.ageing
  unfolding stepped
  step_ageing step w = step_deeds t l w step (λ v e. e.world.table.ageing ≡ v.table.ageing) (record { nothing = λ v. refl; joins = λ v e f x y. y ∙ x; deeds = deed_ageing t l (IsTaken w step) w step })

  pub beat_is_counted : (w : World) → (stepped t l Beat w).world.beats ≡ next_beat w.beats
  unfolding stepped beats_all
  beat_is_counted w =
      let R : World → Effect → Type 0 = λ v e. v.beats ≡ next_beat w.beats → e.world.beats ≡ next_beat w.beats in
      beat_rest t l (IsTaken w Beat) w Beat R (
      by_deeds t l (IsTaken w Beat) w Beat R (
      record {
        nothing = λ v k. k;
        joins = λ v e f x y k. y (x k);
        deeds = λ a u why d v is k. elim (deed_beats t l (IsTaken w Beat) w Beat a u why d v is) [ inl h ↦ h.2 ∙ ap (λ (x : World). next_beat x.beats) h.1 | inr e ↦ e ∙ k ];
      })
      ) tt (record w { beats = next_beat w.beats }) refl refl

pub ageing_stays : AgeingStays
ageing_stays t l step w = step_ageing t l step w
