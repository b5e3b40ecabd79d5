-- How a run of steps goes on in the system of changes, and that requests come through.
use Rattle.std.specs.Prelude.{◌≡◌, ◌≢◌, List, [], ◌∷◌, Some, None}
use Rattle.exb_model.specs.Tree.{Shape}
use Rattle.exb_model.specs.Setup.{Limits}
use Rattle.exb_model.specs.History.{Basis}
use Rattle.exb_control_spec.specs.Decisions.{decide}
use Rattle.exb_control_spec.specs.Machine.{Work}
use Rattle.exb_control_spec.specs.Runs.PlannedChanges.{IsSetting, planning}
use Rattle.exb_control_spec.specs.Runs.MachineInvariant.{MayRun}
use Rattle.exb_control_spec.specs.Runs.Systems as systems
use Rattle.exb_flight.specs.Flight.{Flight, Step, Arrive, CarryUp, CarryIn, Relay, CarryDown, SendDown, SendUp, LoseDown, LoseUp, Move, Note, work_of}
use Rattle.exb_flight.specs.AllowedSteps.{run, Runs}
use Rattle.exb_flight.specs.FlightFacts.{Facts}

-- the steps of the system among others
abbrev pub moves_of : List Step → List systems.Step
moves_of [] = []
moves_of (Arrive p g ∷ xs) = moves_of xs
moves_of (CarryUp n f ∷ xs) = moves_of xs
moves_of (CarryIn n f ∷ xs) = moves_of xs
moves_of (Relay p f ∷ xs) = moves_of xs
moves_of (CarryDown n f ∷ xs) = moves_of xs
moves_of (SendDown n k ∷ xs) = moves_of xs
moves_of (SendUp n k ∷ xs) = moves_of xs
moves_of (LoseDown n at ∷ xs) = moves_of xs
moves_of (LoseUp n at ∷ xs) = moves_of xs
moves_of (Move step ∷ xs) = step ∷ moves_of xs
moves_of (Note e ∷ xs) = moves_of xs

-- The system goes through its own steps, each of which may come. So all that is true of its runs is true here.
pub record GoesOn (s : Shape) (l : Limits) (i : Basis) (w : Flight) (xs : List Step) : Type 0 where
  pub same : (run s l i w xs).system ≡ systems.run (decide s l) (moves_of xs) w.system
  pub may : MayRun (planning s) (decide s l) w.system (moves_of xs)

abbrev pub SystemsGoOn : Type 0
SystemsGoOn = (s : Shape) (l : Limits) (i : Basis) (w : Flight) (xs : List Step) → Runs s l i w xs → GoesOn s l i w xs

-- Wherever the outstanding request isn't executed yet, there are steps after which it is.
abbrev pub RequestsComeThrough : Type 0
RequestsComeThrough =
    (s : Shape) (l : Limits) (i : Basis) → IsSetting s l → (w : Flight) → Facts s i w → (v : Work) → work_of w ≡ Some v
    → w.system.answer ≡ None →
    (xs : List Step) × Runs s l i w xs × ((run s l i w xs).system.answer ≢ None)
