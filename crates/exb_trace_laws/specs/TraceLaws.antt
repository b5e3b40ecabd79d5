-- The laws of the trace.
use Rattle.std.specs.Prelude.{ℕ, List, [], ◌∷◌, ◌++◌, flat_map}
use Rattle.exb_model.specs.Tree.{Shape, IsTree}
use Rattle.exb_model.specs.Setup.{Limits}
use Rattle.exb_model.specs.Configuration.{Bridge}
use Rattle.exb_model.specs.History.{History, ◌then◌}
use Rattle.exb_model.specs.declared.arrival.Arrival.{Arrival}
use Rattle.exb_world_spec.specs.Worlds.{World, Step, Left, first_world}
use Rattle.exb_world_spec.specs.Steps.{Stepped, stepped}
use Rattle.exb_world_spec.specs.AllowedSteps.{IsSettled}
use Rattle.exb_control_spec.specs.Runs.PlannedChanges.{IsSetting}
use Rattle.exb_control_spec.specs.Runs.InitialMachine.{MayBegin}
use Rattle.exb_world_spec.specs.Settling.{run}
use Rattle.exb_world_spec.specs.Runs.Simulation.{IsSound}
use Rattle.exb_world_spec.specs.Runs.SessionLaws.{MayMake, MayMakeAll, HasFewPorts}
use Rattle.exb_model.specs.Traces.{TraceLine}
use Rattle.exb_world_spec.specs.TraceLines.{all_told}
use Rattle.exb_trace_spec.specs.LegalTrace.{LegalTrace}
use Rattle.exb_trace_spec.specs.JournalLines.{journal_of}
use Rattle.exb_trace_laws.specs.TraceRelation.{Traced, given_by, captures_of, outputs_of}
use Rattle.exb_trace_laws.specs.TraceConditions.{Serves, IsReadyToTell}

-- ---- the beginning
-- Before anything has happened nothing is told.
abbrev pub BeginsTraced : Type 0
BeginsTraced = (t : Shape) (l : Limits) (b : Bridge) (ageing : ℕ) → Traced t (first_world t l b ageing) [] [] [] []

abbrev pub BeginsServing : Type 0
BeginsServing = (t : Shape) (l : Limits) (b : Bridge) (ageing : ℕ)
    → Serves t (first_world t l b ageing) (captures_of [])

-- ---- a step
-- the trace with the lines of a step behind it
abbrev pub told_after : List TraceLine → Stepped → List TraceLine
told_after lines s = lines ++ all_told s.lines

-- Each step that may be made keeps the trace legal so far, with its lines behind it.
abbrev pub StepsStayTraced : Type 0
StepsStayTraced =
    (t : Shape) (l : Limits) → IsTree t → HasFewPorts t → (w : World) (step : Step) (arrivals : List Arrival)
    (h : History) (left : List Left) (lines : List TraceLine) →
    IsSound t l w → Serves t w (captures_of arrivals) → MayMake t l w step → IsReadyToTell t w
    → Traced t w arrivals h left lines →
    Traced t (stepped t l step w).world (arrivals ++ given_by step) (h then (stepped t l step w).events)
    (left ++ (stepped t l step w).left) (told_after lines (stepped t l step w))

-- External ports of extenders stay no cascade ports, each port awaits the index of its next record, and the data words
-- on their way up have the stamps of their records.
abbrev pub StepsStayServing : Type 0
StepsStayServing =
    (t : Shape) (l : Limits) → IsSetting t l → HasFewPorts t
    → (w : World) (step : Step) (arrivals : List Arrival) (h : History) (left : List Left) (lines : List TraceLine)
    →
    IsSound t l w → Serves t w (captures_of arrivals) → MayMake t l w step → IsReadyToTell t w
    → Traced t w arrivals h left lines → Serves t (stepped t l step w).world
    (captures_of (arrivals ++ given_by step))

-- ---- the end
-- In a settled world the trace is legal whole.
abbrev pub SettledIsLegal : Type 0
SettledIsLegal =
    (t : Shape) (w : World) (arrivals : List Arrival) (h : History) (left : List Left) (lines : List TraceLine)
    → IsSettled t w → Traced t w arrivals h left lines →
    LegalTrace t (journal_of h) (captures_of arrivals) (outputs_of left) lines

-- ---- a run
-- the world is ready to tell before each step
abbrev pub StaysReady : Shape → Limits → World → List Step → Type 0
StaysReady t l w [] = Unit {0}
StaysReady t l w (step ∷ steps) = IsReadyToTell t w × StaysReady t l (stepped t l step w).world steps

-- what a run gives to the captures
abbrev pub given_in : List Step → List Arrival
given_in steps = flat_map given_by steps

abbrev pub RunsStayTraced : Type 0
RunsStayTraced =
    (t : Shape) (l : Limits) → IsSetting t l → HasFewPorts t
    → (w : World) (steps : List Step) (arrivals : List Arrival) (h : History) (left : List Left)
    (lines : List TraceLine) →
    IsSound t l w → Serves t w (captures_of arrivals) → MayMakeAll t l w steps → StaysReady t l w steps
    → Traced t w arrivals h left lines →
    Traced t (run t l steps w).world (arrivals ++ given_in steps) (h then (run t l steps w).events)
    (left ++ (run t l steps w).left) (told_after lines (run t l steps w))

-- Over a run from the beginning to a settled world the trace is legal: of its journal, of the frames that arrived and
-- of those that left.
abbrev pub RunsAreLegal : Type 0
RunsAreLegal =
    (t : Shape) (l : Limits) (b : Bridge) (ageing : ℕ) (steps : List Step) → IsSetting t l → HasFewPorts t
    → MayBegin t l b →
    MayMakeAll t l (first_world t l b ageing) steps → StaysReady t l (first_world t l b ageing) steps
    → IsSettled t (run t l steps (first_world t l b ageing)).world →
    let r = run t l steps (first_world t l b ageing) in
    LegalTrace t (journal_of ([] then r.events)) (captures_of (given_in steps)) (outputs_of r.left) (all_told r.lines)
