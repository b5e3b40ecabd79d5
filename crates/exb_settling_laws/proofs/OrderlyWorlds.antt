-- A world that begins going keeps the facts that the bound on settling needs, as long as it stays orderly.
use Rattle.std.proofs.Common.{◌≡◌, inl, inr, ℕ, List, [], ◌∷◌, Some, None, slice_index, refl, sym, subst, arith}
use Rattle.exb_model.specs.Setup.{Limits}
use Rattle.exb_model.specs.Tree.{Shape}
use Rattle.exb_frame.specs.TagValues.{TagRoundTrip}
use Rattle.exb_csp.specs.declared.message.Request.{Request}
use Rattle.exb_ecp.specs.StopAndWait.{Sending, after, new_state}
use Rattle.exb_csp.specs.Sessions.AskingEnd.{begun}
use Rattle.exb_extender.specs.Machine.{at_power_on}
use Rattle.exb_csp.specs.PortMasks.{powered_on}
use Rattle.exb_control_spec.specs.Runs.PlannedChanges.{IsSetting}
use Rattle.exb_world_spec.specs.Worlds.{World, Step, Beat}
use Rattle.exb_world_spec.specs.Settling.{run}
use Rattle.exb_world_spec.specs.Steps.{stepped}
use Rattle.exb_world_spec.proofs.Setups.{setups_begin_sound}
use Rattle.exb_settling_laws.specs.SessionInvariant.{IsDevice, IsGoing, IsOrderly}
use Rattle.exb_settling_laws.specs.SettlingLaws.{MayMove, MayMoveAll, KeepsOrder, KeepsFacts, OrderKeepsFacts, SetupsBeginGoing}
use Rattle.exb_settling_laws.specs.RemainingFacts.{NearLeft, FarLeft}
use Rattle.exb_settling_laws.proofs.InvariantSteps.{step_going, beat_going}
use Rattle.exb_settling_laws.proofs.InvariantFacts.{facts_of}

-- ---- the beginning
after_zero : after 0 ≡ 1
unfolding after
after_zero = refl

none_sent : (x : Sending) → None ≡ Some x → ⊥
none_sent x e = cc

none_asked : (x : Request) → None ≡ Some x → ⊥
none_asked x e = cc

near_first : NearLeft new_state begun
near_first =
    record {
      before = (0, after_zero);
      sending = λ x e. absurd (none_sent x e);
      beats = omega arith;
      even = λ x e. absurd (none_sent x e);
      quiet = λ e. refl;
      asked = λ request e. absurd (none_asked request e);
    }

far_first : (number ports : ℕ) → FarLeft (at_power_on number ports)
far_first number ports = record { before = (0, after_zero); sending = λ z e. absurd (none_sent z e); opened = refl }

device_first : (t : Shape) (n : ℕ) → IsDevice t n (at_power_on n (slice_index t.ports n))
unfolding powered_on
device_first t n = record { number = refl; ports = refl }

pub setups_begin_going : SetupsBeginGoing
setups_begin_going s valid =
    let k = setups_begin_sound s valid in (
      k.0,
      record {
        sound = k.1;
        near = λ n. near_first;
        far = λ n there. far_first n _;
        devices = λ n there. device_first _ n;
        placed = record { downs = λ m. tt; ups = λ m. tt };
      },
    )

-- ---- steps
module _ (t : Shape) (l : Limits) (setting : IsSetting t l) (round : TagRoundTrip) where
  orderly_now : (w : World) → KeepsOrder t l w → IsOrderly t w
  unfolding run
  orderly_now w o = o.each [] tt

  orderly_next : (step : Step) (w : World) → MayMove t w step → KeepsOrder t l w → IsOrderly t (stepped t l step w).world
  unfolding run
  orderly_next step w may o = o.each (step ∷ []) (may, tt)

  order_next : (step : Step) (w : World) → MayMove t w step → KeepsOrder t l w → KeepsOrder t l (stepped t l step w).world
  unfolding run
  order_next step w may o = record { each = λ steps more. o.each (step ∷ steps) (may, more) }

  move_going : (step : Step) (w : World) → MayMove t w step → IsGoing t l w → KeepsOrder t l w → IsGoing t l (stepped t l step w).world
  move_going step w (inl may) k o = step_going t l setting.tree setting round step w may.0 may.1 k (orderly_now w o) (orderly_next step w (inl may) o)
  move_going step w (inr is) k o =
      let P : Step → Type 0 = λ s. IsGoing t l (stepped t l s w).world in
      subst P (sym is) (beat_going t l setting.tree setting round w k (orderly_now w o) (orderly_next Beat w (inr refl) o))

  going_after : (steps : List Step) (w : World) → MayMoveAll t l w steps → IsGoing t l w → KeepsOrder t l w → IsGoing t l (run t l steps w).world
  unfolding run
  going_after [] w may k o = k
  going_after (step ∷ steps) w may k o = going_after steps (stepped t l step w).world may.1 (move_going step w may.0 k o) (order_next step w may.0 o)

  keeps_facts : (w : World) → IsGoing t l w → KeepsOrder t l w → KeepsFacts t l w
  keeps_facts w k o = record { each = λ steps may. facts_of t l setting.tree setting round (run t l steps w).world (going_after steps w may k o) (o.each steps may) }

pub order_keeps_facts : TagRoundTrip → OrderKeepsFacts
order_keeps_facts round t l w setting k o = keeps_facts t l setting round w k o
