-- A world that stands, over any steps; what it has sent where it is settled; and what one event makes of a settled one.
use Rattle.std.specs.Prelude.{◌≡◌, ℕ, ◌+◌, ◌++◌, true, List, [], ◌∷◌}
use Rattle.exb_model.specs.declared.event.Event.{Event}
use Rattle.exb_model.specs.declared.event.Event.TheVariants as event
use Rattle.exb_model.specs.EagerHistory.{arrival_event, decided}
use Rattle.exb_model.specs.FlatBridge.{sent_by, flat}
use Rattle.exb_model.specs.History.{Basis, History, ◌then◌, bridge_after}
use Rattle.exb_model.specs.Learning.{learned}
use Rattle.exb_model.specs.Refusals.{refusal}
use Rattle.exb_model.specs.Setup.{Limits}
use Rattle.exb_model.specs.Tree.{Shape, IsTree, is_external}
use Rattle.exb_world_spec.specs.AllowedSteps.{IsSettled}
use Rattle.exb_world_spec.specs.Settling.{run}
use Rattle.exb_world_spec.specs.Worlds.{World, Step, Arrive, Order, Left, left_at}
use Rattle.exb_world_spec.specs.Runs.SessionLaws.{IsMove}
use Rattle.exb_world_spec.specs.Runs.PassedFrames.{passed_over}
use Rattle.exb_world_spec.specs.Runs.Sessions as machine
use Rattle.exb_flight.specs.Promises.{owed_at, IsClean}
use Rattle.exb_world_laws.specs.WorldInput.{Given, given_by, basis_with}
use Rattle.exb_world_laws.specs.WorldInvariant.{MayStart, MayDoAll, given_in, Kept}
use Rattle.exb_world_laws.specs.OneBridge.{Stands}

-- ---- any steps
-- Where a world stood before these steps, whatever was given, was told and had left, it stands after them with what
-- they give, tell and make leave; its links are clean, and its ageing time is what it was.
pub record IsLeftStanding (t : Shape) (l : Limits) (i : Basis) (w : World) (g : List Given) (h : History)
    (left : List Left) (steps : List Step) : Type 0 where
  pub stands : Stands t l i (run t l steps w).world (g ++ given_in steps) (h then (run t l steps w).events)
      (left ++ (run t l steps w).left)
  pub clean : IsClean t (run t l steps w).world
  pub ageing : (run t l steps w).world.table.ageing ≡ w.table.ageing

abbrev pub RunsLeaveStanding : Type 0
RunsLeaveStanding =
    (t : Shape) (l : Limits) (b : Basis) → MayStart t l b
    → (w : World) (given : List Given) (told : History) (gone : List Left) → Kept t l b w given told gone →
    (steps : List Step) → MayDoAll t l w steps →
    (i : Basis) → i.ageing ≡ w.table.ageing → (g : List Given) (h : History) (left : List Left)
    → Stands t l i w g h left → IsLeftStanding t l i w g h left steps

-- They say of each Relay among their events whether its frame passes, in the configuration before it.
abbrev pub RunsTellPassed : Type 0
RunsTellPassed =
    (t : Shape) (l : Limits) (b : Basis) → MayStart t l b
    → (w : World) (given : List Given) (told : History) (gone : List Left) → Kept t l b w given told gone →
    (steps : List Step) → MayDoAll t l w steps →
    (i : Basis) → i.ageing ≡ w.table.ageing → (g : List Given) (h : History) (left : List Left)
    → Stands t l i w g h left →
    (run t l steps w).passed ≡ passed_over (basis_with i (g ++ given_in steps)) h (run t l steps w).events

-- ---- a settled world
-- Where it stands nothing is owed: what has left each port is what the one bridge sends there. That it stands is
-- enough.
abbrev pub StandsOwesNothing : Type 0
StandsOwesNothing =
    (t : Shape) (l : Limits) (i : Basis) → IsTree t → (w : World) (g : List Given) (h : History) (left : List Left)
    → Stands t l i w g h left → IsSettled t w →
    (q : ℕ) → is_external t q ≡ true → (owed_at t w q ≡ []) × (left_at q left ≡ flat (basis_with i g) h q)

-- ---- one event
-- a step that gives something
abbrev pub IsGiving : Step → Type 0
IsGiving (Arrive a) = Unit {0}
IsGiving (Order c) = Unit {0}
IsGiving _ = ⊥

-- what becomes of it by the configuration of a settled world: by the rule of the eager history
abbrev pub told_of : Shape → Limits → World → Step → Event
told_of t l w (Arrive a) = arrival_event w.control.bridge a
told_of t l w (Order c) = decided (w.control.given + 1) (refusal t l w.control.bridge c)
told_of t l w _ = event.Settled

-- A settled world is given something and settles by moves: just that is told.
abbrev pub EventsAreTold : Type 0
EventsAreTold =
    (t : Shape) (l : Limits) (b : Basis) → MayStart t l b
    → (w : World) (given : List Given) (told : History) (gone : List Left) → Kept t l b w given told gone
    → IsSettled t w →
    (step : Step) (moves : List Step) → IsGiving step → MayDoAll t l w (step ∷ moves) → machine.Each IsMove moves
    → IsSettled t (run t l (step ∷ moves) w).world →
    (run t l (step ∷ moves) w).events ≡ told_of t l w step ∷ []

-- And just that leaves which the one bridge sends for it, at each external port.
pub record IsOneEvent (t : Shape) (l : Limits) (i : Basis) (w : World) (g : List Given) (h : History) (left : List Left)
    (step : Step) (moves : List Step) : Type 0 where
  pub told : (run t l (step ∷ moves) w).events ≡ told_of t l w step ∷ []
  pub stands : Stands t l i (run t l (step ∷ moves) w).world (g ++ given_by step) (told_of t l w step ∷ h)
      (left ++ (run t l (step ∷ moves) w).left)
  pub clean : IsClean t (run t l (step ∷ moves) w).world
  pub ageing : (run t l (step ∷ moves) w).world.table.ageing ≡ w.table.ageing
  pub leaves : (q : ℕ) → is_external t q ≡ true → left_at q (run t l (step ∷ moves) w).left
      ≡ sent_by (bridge_after (basis_with i g) h) (learned (basis_with i g) h) (told_of t l w step) q

abbrev pub EventsGoAlone : Type 0
EventsGoAlone =
    (t : Shape) (l : Limits) (b : Basis) → MayStart t l b
    → (w : World) (given : List Given) (told : History) (gone : List Left) → Kept t l b w given told gone
    → IsSettled t w →
    (step : Step) (moves : List Step) → IsGiving step → MayDoAll t l w (step ∷ moves) → machine.Each IsMove moves
    → IsSettled t (run t l (step ∷ moves) w).world →
    (i : Basis) → i.ageing ≡ w.table.ageing → (g : List Given) (h : History) (left : List Left)
    → Stands t l i w g h left → IsOneEvent t l i w g h left step moves
