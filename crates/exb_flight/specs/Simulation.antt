-- Each step of the world is a list of steps of the flight in which the world shows.
use Rattle.std.specs.Prelude.{◌≡◌, ℕ, false, ◌<◌, ◌+◌, Bool, List, [], ◌∷◌, ◌++◌, Some}
use Rattle.exb_model.specs.declared.command.Command.{Command}
use Rattle.exb_model.specs.Tree.{Shape, on, is_extender}
use Rattle.exb_model.specs.Setup.{Limits}
use Rattle.exb_model.specs.declared.arrival.Arrival.{Arrival}
use Rattle.exb_model.specs.History.{Basis, History, ◌then◌, command_of}
use Rattle.exb_config.specs.Pvids.{HasPvids}
use Rattle.exb_control_spec.specs.Runs.PlannedChanges.{IsSetting}
use Rattle.exb_world_spec.specs.Worlds.{World, Way, Up, Down, Step, Arrive, Carry, Control, Lose, Beat, Tick, Order, Mark, Left}
use Rattle.exb_world_spec.specs.Effects.{Effect}
use Rattle.exb_world_spec.specs.Steps.{done_by, stepped}
use Rattle.exb_world_spec.specs.Runs.Simulation.{IsSound}
use Rattle.exb_world_spec.specs.Runs.SessionLaws.{MayMake}
use Rattle.exb_flight.specs.Flight.{Flight}
use Rattle.exb_flight.specs.Flight as flights
use Rattle.exb_flight.specs.AllowedSteps.{run, Runs}
use Rattle.exb_flight.specs.FlightFacts.{Facts}
use Rattle.exb_flight.specs.SimulationRelation.{Shows}

-- What is done to a world is a list of steps that may come, after which the world shows again.
pub record Flown (t : Shape) (l : Limits) (i : Basis) (h : History) (left : List Left) (f : Flight)
    (e : Effect) : Type 0 where
  pub steps : List flights.Step
  pub runs : Runs t l i f steps
  pub shows : Shows t i e.world (h then e.events) (left ++ e.left) (run t l i f steps)

-- ---- steps that may be made
-- a command is the next one of the basis
abbrev pub IsNext : Basis → World → Step → Type 0
IsNext i w (Order c) = command_of i (w.control.given + 1) ≡ Some c
IsNext i w _ = Unit {0}

-- A step that may be made. That PVIDs are VLANs is a fact of the code's types, and that what is no extender hangs on no
-- extender is one of the shape of a setup.
pub record MayFly (t : Shape) (l : Limits) (i : Basis) (w : World) (step : Step) : Type 0 where
  pub may : MayMake t l w step
  pub next : IsNext i w step
  pub pvids : HasPvids w.control.bridge
  pub absent : (k : ℕ) → is_extender t k ≡ false → on t k < 64

abbrev pub MayFlyAll : Shape → Limits → Basis → World → List Step → Type 0
MayFlyAll t l i w [] = Unit {0}
MayFlyAll t l i w (step ∷ steps) = MayFly t l i w step × MayFlyAll t l i (stepped t l step w).world steps

-- ---- the simulation
abbrev pub StepFlies : Step → Type 0
StepFlies step =
    (t : Shape) (l : Limits) (i : Basis) → IsSetting t l → (w : World) (h : History) (left : List Left) (f : Flight)
    → IsSound t l w → Facts t i f → Shows t i w h left f →
    MayFly t l i w step → Flown t l i h left f (done_by t l step w)

abbrev pub TicksFly : Type 0
TicksFly = (seconds : ℕ) → StepFlies (Tick seconds)

abbrev pub MarksFly : Type 0
MarksFly = StepFlies Mark

abbrev pub LossesFly : Type 0
LossesFly = (n : ℕ) (way : Way) (k : ℕ) → StepFlies (Lose n way k)

abbrev pub OrdersFly : Type 0
OrdersFly = (c : Command) → StepFlies (Order c)

abbrev pub BeatsFly : Type 0
BeatsFly = StepFlies Beat

abbrev pub ControlsFly : Type 0
ControlsFly = (n : ℕ) (way : Way) (k : ℕ) (keep : Bool) → StepFlies (Control n way k keep)

abbrev pub ArrivalsFly : Type 0
ArrivalsFly = (a : Arrival) → StepFlies (Arrive a)

-- a data word that goes up, and one that goes down
abbrev pub AscentsFly : Type 0
AscentsFly = (n : ℕ) → StepFlies (Carry n Up)

abbrev pub DescentsFly : Type 0
DescentsFly = (n : ℕ) → StepFlies (Carry n Down)

-- ---- all kinds together
abbrev pub StepsFly : Type 0
StepsFly = (step : Step) → StepFlies step
