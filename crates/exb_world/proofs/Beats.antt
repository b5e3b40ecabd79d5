-- The parts of a beat, one after another.
use Rattle.std.proofs.Common.{◌≡◌, ℕ, ◌+◌, ◌-◌, ◌^◌, ◌<◌, ◌≤◌, ◌&&◌, Bool, true, false, not, min, List, drop, None, inl, inr, refl, arith, sym, ap, subst, ◌∙◌}
use Rattle.exb_model.specs.Setup.{Limits}
use Rattle.std.specs.Prelude.{if◌then◌else◌, Option, Some, slice_get, slice_index}
use Rattle.std.proofs.lemmas.Bool.{and_parts, cases_Bool, false_from_ne_true, false≢true}
use mathlib.Core.Path.{fun_ext}
use Rattle.exb_model.specs.Tree.{Shape, IsTree, is_extender}
use Rattle.exb_extender.specs.Fields.{Fields}
use Rattle.exb_extender.specs.Machine.{ExtenderState, Beats}
use Rattle.exb_extender.specs.IdleExtender.{rests}
use Rattle.exb_extender.proofs.IdleLemmas.{beat_counts, rests_rested}
use Rattle.exb_world_spec.specs.Effects.{Effect, only, then_do, each}
use Rattle.exb_world_spec.specs.ExtenderSteps.{reacts}
use Rattle.exb_world_spec.specs.ControlFrames.{beats_control, beats_near}
use Rattle.exb_world_spec.specs.Steps.{all_extenders, beats_all, if_there}
use Rattle.exb_world_spec.specs.Worlds.{World, next_beat}
use Rattle.exb_world_spec.specs.Runs.Requests.{AsksWell}
use Rattle.exb_model.specs.DeviceSets.{number_in}
use Rattle.exb_outbox.specs.declared.log.Log.{Log}
use Rattle.exb_bridge.specs.BridgeWorlds.{Whole}
use Rattle.exb_extender.specs.Extenders.{Devices, state_at, far_of, has_extender, if_rests, is_there}
use Rattle.exb_bridge.specs.RemainingEffects.{Leads}
use Rattle.exb_bridge.specs.TreeIndexes.{Site}
use Rattle.exb_bridge.specs.BridgeWorlds.{world_in, IsAt, Does}
use Rattle.exb_bridge.proofs.RemainingEffects.{leads_first, does_then}
use Rattle.exb_bridge.proofs.EffectLoops.{numbers_lead, numbers_told, numbers_skip}
use Rattle.exb_bridge.proofs.Resends.{all_near_control}
use Rattle.exb_world.proofs.IdleExtenders.{mark}
use Rattle.exb_world.proofs.ExtenderBeats.{beats_at, wakes_at, resting_in, rested_world, rest_first}

-- what is asked still can go after the bridge's ends have had their beat
pub near_asks : (t : Shape) (l : Limits) (ns : List ℕ) (s : Site) (c d : Whole) (old new : Log) → Does (each (if_there t (beats_near t)) ns (world_in c)) s d old new → AsksWell t l (world_in c).control →
    AsksWell t l (world_in d).control
near_asks t l ns s c d old new done asks = subst (AsksWell t l) (sym (ap (λ (w : World). w.control) done.world ∙ all_near_control t ns (world_in c))) asks

pub all_beaten : (t : Shape) (s : Site) (c near control far : Whole) (beats : ℕ) (old so_far told new : Log) → beats ≡ next_beat c.beats →
    Does (each (if_there t (beats_near t)) all_extenders (world_in (record c { beats = beats }))) s near old so_far → Does (beats_control t (world_in near)) s control so_far told →
    Does (each (if_there t (λ n. reacts t n None Beats)) all_extenders (world_in control)) s far told new → Does (beats_all t (world_in c)) s far old new
unfolding beats_all
all_beaten t s c near control far beats old so_far told new is first second third =
    let from : World = record (world_in c) { beats = next_beat c.beats } in
    let ends : Effect = each (if_there t (beats_near t)) all_extenders from in
    let counted : Does ends s near old so_far = subst (λ (b : ℕ). Does (each (if_there t (beats_near t)) all_extenders (record (world_in c) { beats = b })) s near old so_far) is first in
    does_then (then_do ends (beats_control t)) (each (if_there t (λ n. reacts t n None Beats)) all_extenders) s control far old told new
    (does_then ends (beats_control t) s near control old so_far told counted second) third

-- one beat more was counted
pub beat_is : (old new : ℕ) → new ≡ min (old + 1) (2 ^ 64 - 1) → new ≡ next_beat old
unfolding next_beat
beat_is old new is = is

-- ---- the extenders that are left, from a number on
-- the beat has passed at those that rest in a world, and passes at the others.
pub record FarLeft (t : Shape) (s : Site) (w : World) (old : Log) (n : ℕ) (c : Whole) (log : Log) : Type 0 where
  pub rest : Leads (each (wakes_at t (resting_in w)) all_extenders (rested_world w)) (each (wakes_at t (resting_in w)) (drop (n - 1) all_extenders) (world_in c)) old log
  pub here : IsAt s c

pub far_first : (t : Shape) (s : Site) (c : Whole) (far : Devices) (log : Log) → ((n : ℕ) → far_of far n ≡ if_rests (far_of c.far n)) → IsAt s (record c { far = far }) →
    FarLeft t s (world_in c) log 1 (record c { far = far }) log
far_first t s c far log is at =
    let same : world_in (record c { far = far }) ≡ rested_world (world_in c) = ap (λ (f : ℕ → ExtenderState). record (world_in c) { far = f }) (fun_ext (λ n. is n)) in
    let whole = each (wakes_at t (resting_in (world_in c))) all_extenders (rested_world (world_in c)) in
    record {
      rest = subst (λ (w : World). Leads whole (each (wakes_at t (resting_in (world_in c))) all_extenders w) log log) (sym same) (leads_first whole log);
      here = at;
    }

-- one that doesn't rest has its beat
pub far_next : (t : Shape) (s : Site) (w : World) (n : ℕ) (c d : Whole) (old told new : Log) → 0 < n → n < 65 → resting_in w n ≡ false → is_extender t n ≡ true → FarLeft t s w old n c told →
    Does (reacts t n None Beats (world_in c)) s d told new → FarLeft t s w old (n + 1) d new
far_next t s w n c d old told new some few awake there left does =
    let done : Does (wakes_at t (resting_in w) n (world_in c)) s d told new = rw (awake, there) does in
    record {
      rest = numbers_lead (wakes_at t (resting_in w)) (each (wakes_at t (resting_in w)) all_extenders (rested_world w)) n s c d old told new some few left.rest done;
      here = does.at;
    }

-- at one that rests, and where there is no extender, nothing is done
pub far_skip : (t : Shape) (s : Site) (w : World) (n m : ℕ) (c : Whole) (old log : Log) → 0 < n → n ≤ m → m ≤ 65 → ((k : ℕ) → n ≤ k → k < m → (is_extender t k && not (resting_in w k)) ≡ false) →
    FarLeft t s w old n c log → FarLeft t s w old m c log
far_skip t s w n m c old log some up few none left =
    let e : n + (m - n) ≡ m = omega arith in
    let on : FarLeft t s w old (n + (m - n)) c log =
    record {
      rest = numbers_skip (wakes_at t (resting_in w)) (each (wakes_at t (resting_in w)) all_extenders (rested_world w)) (m - n) n s c old log some (omega arith) left.here
          (λ k from before. nothing k (resting_in w k) (is_extender t k) (none k from (omega (arith, before)))) left.rest;
      here = left.here;
    } in
    subst (λ (k : ℕ). FarLeft t s w old k c log) e on
  where
    nothing : (k : ℕ) (rest there : Bool) → (there && not rest) ≡ false →
        (if rest then only (world_in c) else (if there then reacts t k None Beats (world_in c) else only (world_in c))) ≡ only (world_in c)
    nothing k true there e = refl
    nothing k false false e = refl
    nothing k false true e = absurd (false≢true (sym e))

pub far_last : (t : Shape) (s : Site) (w : World) (n : ℕ) (c : Whole) (old log : Log) → 65 ≤ n → IsTree t → ((k : ℕ) → resting_in w k ≡ true → is_extender t k ≡ true) → FarLeft t s w old n c log →
    Does (each (beats_at t) all_extenders w) s c old log
far_last t s w n c old log all tree there left =
    subst (λ (e : Effect). Does e s c old log) (rest_first t w tree there)
    (numbers_told (wakes_at t (resting_in w)) (each (wakes_at t (resting_in w)) all_extenders (rested_world w)) n s c old log all left.rest left.here)

-- ---- those that rest, and those that wait
-- all that rest are extenders
pub resting_there : (s : Site) (c : Whole) → IsAt s c → (k : ℕ) → resting_in (world_in c) k ≡ true → is_extender s.tree k ≡ true
resting_there s c at k rest = at.only k (by_get (slice_get c.far.extenders k) (sym (rests_rested c.far.passed _) ∙ rest))
  where
    by_get : (x : Option (Option Fields)) → rests (state_at x k (slice_index c.far.ports k)) ≡ true → is_there x ≡ true
    by_get (Some (Some f)) e = refl
    by_get (Some None) e = absurd (false≢true e)
    by_get None e = absurd (false≢true e)

-- a beat that passed at those that rest wakes none of them
still_rests : (s : ExtenderState) → rests (if_rests s) ≡ rests s
still_rests s =
    elim (cases_Bool (rests s)) [
      | inl e ↦ rw e (ap rests (beat_counts s e) ∙ e)
      | inr e ↦ rw e e
    ]

-- after it, those whose bits are set are the extenders that don't rest
pub waiting_bit : (s : Site) (c : Whole) (far : Devices) (waiting : ℕ) → IsAt s (record c { far = far }) → ((n : ℕ) → far_of far n ≡ if_rests (far_of c.far n)) →
    ((n : ℕ) → number_in waiting n ≡ (if has_extender far n && not (rests (far_of far n)) then 1 else 0)) →
    (k : ℕ) → number_in waiting k ≡ (if is_extender s.tree k && not (resting_in (world_in c) k) then 1 else 0)
waiting_bit s c far waiting at is bits k =
    let rest : rests (far_of far k) ≡ resting_in (world_in c) k = ap rests (is k) ∙ still_rests (far_of c.far k) in
    bits k ∙ ap (λ (b : Bool). if has_extender far k && not b then 1 else 0) rest ∙ ap (λ (b : Bool). if b && not (resting_in (world_in c) k) then 1 else 0) there
  where
    there : has_extender far k ≡ is_extender s.tree k
    there =
        elim (cases_Bool (has_extender far k)) [
          | inl e ↦ e ∙ sym (at.only k e)
          | inr e ↦ e ∙ sym (false_from_ne_true _ (λ yes. false≢true (sym e ∙ at.there k yes)))
        ]

pub waits : (b : Bool) → mark b ≡ 1 → b ≡ true
waits true e = refl
waits false e = let f : 0 ≡ 1 = e in absurd (omega (arith, f))

pub waits_not : (b : Bool) → mark b ≡ 0 → b ≡ false
waits_not false e = refl
waits_not true e = let f : 1 ≡ 0 = e in absurd (omega (arith, f))

-- of one whose bit is set
pub record Waits (t : Shape) (w : World) (n : ℕ) : Type 0 where
  pub there : is_extender t n ≡ true
  pub awake : resting_in w n ≡ false

pub who_waits : (t : Shape) (w : World) (n : ℕ) → (is_extender t n && not (resting_in w n)) ≡ true → Waits t w n
who_waits t w n e =
    let both = and_parts (is_extender t n) (not (resting_in w n)) e in
    record { there = both.0; awake = turned (resting_in w n) both.1 }
  where
    turned : (b : Bool) → not b ≡ true → b ≡ false
    turned false e = refl
    turned true e = absurd (false≢true e)
