-- A beat at the bridge's ends and its control, one after another.
use Rattle.std.proofs.Common.{◌≡◌, ℕ, ◌+◌, ◌-◌, ◌<◌, ◌≤◌, Bool, true, false, drop, None, refl, arith, sym, ap, subst}
use Rattle.std.specs.Prelude.{if◌then◌else◌, is_none, Option, Some}
use Rattle.std.proofs.lemmas.Bool.{and_parts, false≢true}
use Rattle.exb_model.specs.Tree.{Shape, is_extender}
use Rattle.exb_control_spec.specs.Machine.{Moved, State, Work, beats_in, still}
use Rattle.exb_control.specs.Controls.{is_settled}
use Rattle.exb_control.specs.Queues.{is_empty}
use Rattle.exb_world_spec.specs.Effects.{only, each}
use Rattle.exb_world_spec.specs.ControlFrames.{beats_control, beats_near, moves}
use Rattle.exb_world_spec.specs.Steps.{all_extenders, if_there}
use Rattle.exb_world_spec.specs.Worlds.{World}
use Rattle.exb_outbox.specs.declared.log.Log.{Log}
use Rattle.exb_ecp.specs.Ends.{near_of}
use Rattle.exb_bridge.specs.RemainingEffects.{Leads}
use Rattle.exb_bridge.specs.TreeIndexes.{Site}
use Rattle.exb_bridge.specs.BridgeWorlds.{Whole, world_in, IsAt, Does}
use Rattle.exb_bridge.proofs.PartChanges.{tells_nothing}
use Rattle.exb_bridge.proofs.RemainingEffects.{leads_first}
use Rattle.exb_bridge.proofs.EffectLoops.{numbers_lead, numbers_told, numbers_skip}
use Rattle.exb_bridge.proofs.Resends.{idle_near}

-- ---- the ends that are left, from a number on
pub record NearLeft (t : Shape) (s : Site) (w : World) (old : Log) (n : ℕ) (c : Whole) (log : Log) : Type 0 where
  pub rest : Leads (each (if_there t (beats_near t)) all_extenders w) (each (if_there t (beats_near t)) (drop (n - 1) all_extenders) (world_in c)) old log
  pub here : IsAt s c

pub near_first : (t : Shape) (s : Site) (c : Whole) (log : Log) → IsAt s c → NearLeft t s (world_in c) log 1 c log
near_first t s c log at = record { rest = leads_first (each (if_there t (beats_near t)) all_extenders (world_in c)) log; here = at }

pub near_next : (t : Shape) (s : Site) (w : World) (n : ℕ) (c d : Whole) (old told new : Log) → 0 < n → n < 65 → NearLeft t s w old n c told → Does (if_there t (beats_near t) n (world_in c)) s d told new →
    NearLeft t s w old (n + 1) d new
near_next t s w n c d old told new some few left done =
    record {
      rest = numbers_lead (if_there t (beats_near t)) (each (if_there t (beats_near t)) all_extenders w) n s c d old told new some few left.rest done;
      here = done.at;
    }

-- an end that sends nothing stays
pub quiet_near : (t : Shape) (n : ℕ) (w : World) → (w.near n).sending ≡ None → if_there t (beats_near t) n w ≡ only w
quiet_near t n w quiet = by_test (is_extender t n)
  where
    by_test : (b : Bool) → (if b then beats_near t n w else only w) ≡ only w
    by_test true = idle_near t n w quiet
    by_test false = refl

pub near_skip : (t : Shape) (s : Site) (w : World) (n m : ℕ) (c : Whole) (old log : Log) → 0 < n → n ≤ m → m ≤ 65 → ((k : ℕ) → n ≤ k → k < m → (near_of c.near k).sending ≡ None) →
    NearLeft t s w old n c log → NearLeft t s w old m c log
near_skip t s w n m c old log some up few quiet left =
    let e : n + (m - n) ≡ m = omega arith in
    let on : NearLeft t s w old (n + (m - n)) c log =
    record {
      rest = numbers_skip (if_there t (beats_near t)) (each (if_there t (beats_near t)) all_extenders w) (m - n) n s c old log some (omega arith) left.here
          (λ k from before. quiet_near t k (world_in c) (quiet k from (omega (arith, before)))) left.rest;
      here = left.here;
    } in
    subst (λ (k : ℕ). NearLeft t s w old k c log) e on

pub near_last : (t : Shape) (s : Site) (w : World) (n : ℕ) (c : Whole) (old log : Log) → 65 ≤ n → NearLeft t s w old n c log → Does (each (if_there t (beats_near t)) all_extenders w) s c old log
near_last t s w n c old log all left = numbers_told (if_there t (beats_near t)) (each (if_there t (beats_near t)) all_extenders w) n s c old log all left.rest left.here

-- ---- the control, where no change is at work
none_is : {X : Type 0} (o : Option X) → is_none o ≡ true → o ≡ None
none_is None e = refl
none_is (Some x) e = absurd (false≢true e)

pub beats_settled : (t : Shape) (s : Site) (c : Whole) (log : Log) → is_settled (world_in c).control ≡ true → IsAt s c → Does (beats_control t (world_in c)) s c log log
beats_settled t s c log settled is =
    let m : State = (world_in c).control in
    let idle : m.work ≡ None = none_is m.work (and_parts (is_empty m.queue) (is_none m.work) settled).1 in
    subst (λ (moved : Moved). Does (moves t moved (world_in c)) s c log log) (sym (ap (λ (work : Option Work). beats_in work m) idle))
    (tells_nothing (moves t (still m) (world_in c)) s c log refl refl refl refl refl is)
