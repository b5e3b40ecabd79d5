-- What every step keeps, and the laws of worlds in motion.
use Rattle.std.specs.Prelude.{◌≡◌, ℕ, ◌++◌, ◌<◌, true, false, List, [], ◌∷◌, Some, All}
use Rattle.exb_model.specs.declared.event.Event.{Event}
use Rattle.exb_model.specs.declared.event.Event.TheVariants as event
use Rattle.exb_model.specs.declared.setup.Setup.{Setup}
use Rattle.exb_model.specs.EagerHistory.{is_relayed}
use Rattle.exb_model.specs.FlatBridge.{flat}
use Rattle.exb_model.specs.History.{Basis, History, ◌then◌, bridge_after}
use Rattle.exb_model.specs.declared.arrival.Arrival.{Arrival}
use Rattle.exb_model.specs.LegalHistory.{EachEvent}
use Rattle.exb_model.specs.Lists.{numbered}
use Rattle.exb_model.specs.Setup.{Limits, IsValid, shape_of, limits_of, start_of}
use Rattle.exb_model.specs.Tree.{Shape, on, is_extender, is_external}
use Rattle.exb_config.specs.Pvids.{HasPvids}
use Rattle.exb_control_spec.specs.InitialState.{first_jobs}
use Rattle.exb_control_spec.specs.Runs.InitialMachine.{MayBegin}
use Rattle.exb_control_spec.specs.Runs.Journal.{Tells}
use Rattle.exb_control_spec.specs.Runs.PlannedChanges.{IsSetting}
use Rattle.exb_world_spec.specs.AllowedSteps.{IsSettled}
use Rattle.exb_world_spec.specs.Runs.SessionLaws.{HasFewPorts, MayMake}
use Rattle.exb_world_spec.specs.Settling.{run}
use Rattle.exb_world_spec.specs.Runs.Simulation.{jobs_in, jobs_after}
use Rattle.exb_world_spec.specs.Runs.Stamps.{AreStamped}
use Rattle.exb_world_spec.specs.Steps.{stepped}
use Rattle.exb_world_spec.specs.Worlds.{World, Step, Left, first_world, left_at}
use Rattle.exb_world_spec.specs.Runs.ReachedWorlds.{HasVid, HasVidIn}
use Rattle.exb_flight.specs.Items.{Each}
use Rattle.exb_flight.specs.Promises.{owed_at, IsClean}
use Rattle.exb_flight.specs.SimulationRelation.{Stood}
use Rattle.exb_world_laws.specs.WorldInput.{Given, given_by, arrivals_at, commands_of, basis_with}
use Rattle.exb_world_laws.specs.OneBridge.{FollowsGiven, NamesGiven, Stands}

-- ---- where a world begins
-- A tree and limits of which the laws speak, and a configuration with which a world may begin.
pub record MayStart (t : Shape) (l : Limits) (i : Basis) : Type 0 where
  pub setting : IsSetting t l
  pub few : HasFewPorts t
  pub begin : MayBegin t l i.start
  pub absent : (k : ℕ) → is_extender t k ≡ false → on t k < 64
  pub pvids : HasPvids i.start

-- what a setup gives
abbrev pub basis_of : Setup → Basis
basis_of s = record { start = start_of s; commands = []; ageing = s.ageing }

-- Each valid setup is such. That its VLANs are 1 to 4094 is a fact of their type.
abbrev pub SetupsMayStart : Type 0
SetupsMayStart = (s : Setup) → IsValid s → All HasVid s.start → MayStart (shape_of s) (limits_of s) (basis_of s)

-- ---- steps
-- A step that may be made. All but `can` are facts of the code's types.
pub record MayDo (t : Shape) (l : Limits) (w : World) (step : Step) : Type 0 where
  pub may : MayMake t l w step
  pub vid : HasVidIn step

abbrev pub MayDoAll : Shape → Limits → World → List Step → Type 0
MayDoAll t l w [] = Unit {0}
MayDoAll t l w (step ∷ steps) = MayDo t l w step × MayDoAll t l (stepped t l step w).world steps

-- what several steps give
abbrev pub given_in : List Step → List Given
given_in [] = []
given_in (step ∷ steps) = given_by step ++ given_in steps

-- ---- what every step keeps
-- A Relay stands where the bridge relays, and an Ignored where it doesn't relay its arrival, which was given.
abbrev pub IsSurely : Basis → (ℕ → List Arrival) → History → Event → Type 0
IsSurely i arrivals h (event.Relay p n moment f) = is_relayed (bridge_after i h) p f ≡ true
IsSurely i arrivals h (event.Ignored p n) = (a : Arrival) × (numbered (arrivals p) n ≡ Some a)
    × (is_relayed (bridge_after i h) p a.bytes ≡ false)
IsSurely i arrivals h _ = Unit {0}

-- After what was given, a journal and what has left: there is a flight in which the world shows, and all jobs so far
-- are those of the extenders and the commands that were given.
pub record Kept (t : Shape) (l : Limits) (i : Basis) (w : World) (g : List Given) (h : History)
    (left : List Left) : Type 0 where
  pub journal : List Event
  pub is : h ≡ ([] then journal)
  pub stood : Stood t l (basis_with i g) w h left
  pub stamped : AreStamped w
  pub follows : FollowsGiven w g
  pub downs : List ℕ
  pub tells : Tells t l i.start (first_jobs t ++ jobs_after 0 (commands_of g)) (jobs_in journal) downs w.control
  pub names : NamesGiven t w g h
  pub entered : EachEvent (IsSurely (basis_with i g) (λ p. arrivals_at p g)) h
  pub vids : Each HasVid (commands_of g)

-- ---- the laws
-- As it begins the world keeps all that.
abbrev pub BeginsKept : Type 0
BeginsKept = (t : Shape) (l : Limits) (i : Basis) → MayStart t l i
    → Kept t l i (first_world t l i.start i.ageing) [] [] []

-- Every step keeps it, with what the step gives, tells and makes leave.
abbrev pub StepsKeep : Type 0
StepsKeep =
    (t : Shape) (l : Limits) (i : Basis) → MayStart t l i
    → (w : World) (g : List Given) (h : History) (left : List Left) → Kept t l i w g h left → (step : Step)
    → MayDo t l w step →
    Kept t l i (stepped t l step w).world (g ++ given_by step) (h then (stepped t l step w).events)
    (left ++ (stepped t l step w).left)

-- Where it is kept, the world stands.
abbrev pub KeptStands : Type 0
KeptStands = (t : Shape) (l : Limits) (i : Basis) → MayStart t l i
    → (w : World) (g : List Given) (h : History) (left : List Left) → Kept t l i w g h left → Stands t l i w g h left

-- And the links are clean.
abbrev pub KeptIsClean : Type 0
KeptIsClean = (t : Shape) (l : Limits) (i : Basis) → MayStart t l i
    → (w : World) (g : List Given) (h : History) (left : List Left) → Kept t l i w g h left → IsClean t w

-- Over a settled world nothing is owed, so what has left a port is what the one bridge sends there.
abbrev pub SettledOwesNothing : Type 0
SettledOwesNothing =
    (t : Shape) (l : Limits) (i : Basis) → MayStart t l i
    → (w : World) (g : List Given) (h : History) (left : List Left) → Kept t l i w g h left → IsSettled t w →
    (q : ℕ) → is_external t q ≡ true → (owed_at t w q ≡ []) × (left_at q left ≡ flat (basis_with i g) h q)

-- And whatever was given, was told and has left: where a world stands with that, after a step it stands with what the
-- step gives, tells and makes leave. Of the world it is enough that it is kept after anything.
abbrev pub StandsGoOn : Type 0
StandsGoOn =
    (t : Shape) (l : Limits) (b : Basis) → MayStart t l b
    → (w : World) (given : List Given) (told : History) (gone : List Left) → Kept t l b w given told gone
    → (step : Step) → MayDo t l w step →
    (i : Basis) → i.ageing ≡ w.table.ageing → (g : List Given) (h : History) (left : List Left)
    → Stands t l i w g h left →
    Stands t l i (stepped t l step w).world (g ++ given_by step) (h then (stepped t l step w).events)
    (left ++ (stepped t l step w).left)

-- So over every list of steps from the beginning of each setup that may start it stands, with all that was given, told
-- and has left; and the links are clean.
abbrev pub RunsStand : Type 0
RunsStand =
    (t : Shape) (l : Limits) (i : Basis) → MayStart t l i → (steps : List Step) →
    let w = first_world t l i.start i.ageing in
    MayDoAll t l w steps →
    Stands t l i (run t l steps w).world (given_in steps) ([] then (run t l steps w).events) (run t l steps w).left
    × IsClean t (run t l steps w).world
