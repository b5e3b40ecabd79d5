-- A network that plays an input, segment by segment.
use Rattle.std.specs.Prelude.{◌≡◌, ℕ, ◌++◌, ◌==◌, Bool, true, false, if◌then◌else◌, List, [], ◌∷◌, length, map, filter_map, sum_by}
use Rattle.exb_model.specs.declared.event.Event.{Event}
use Rattle.exb_model.specs.declared.setup.Timed.{Timed}
use Rattle.exb_model.specs.History.{command_of}
use Rattle.exb_model.specs.Traces.{TraceLine}
use Rattle.exb_model.specs.Input.{Input, Segment, Mode, basis_of, tree_of, bounds_of}
use Rattle.exb_model.specs.declared.arrival.Arrival.{Arrival}
use Rattle.exb_model.specs.Setup.{Limits}
use Rattle.exb_model.specs.Tree.{Shape}
use Rattle.exb_world_spec.specs.AllowedSteps.{Can}
use Rattle.exb_world_spec.specs.Steps.{Stepped, stepped}
use Rattle.exb_world_spec.specs.TraceLines.{all_told}
use Rattle.exb_world_spec.specs.Worlds.{World, Step, Arrive, Order, Tick, Left}
use Rattle.exb_world.specs.WorldContracts.{Network, world_of, tree_of as shape_in, bounds_of as limits_in}
use Rattle.exb_bridge.specs.BridgeWorlds.{all_left}
use Rattle.exb_world_laws.specs.Runs.SegmentRuns.{PlaysIn}

-- ---- a segment: its seconds, its commands and its arrivals
-- the steps that give them, in that order
abbrev pub tick : ℕ → List Step
tick seconds = if seconds == 0 then [] else Tick seconds ∷ []

abbrev pub orders : List Timed → List Step
orders commands = map (λ (c : Timed). Order c.command) commands

abbrev pub arrive : List Arrival → List Step
arrive frames = map Arrive frames

abbrev pub gives : ℕ → List Timed → List Arrival → List Step
gives seconds cs frames = tick seconds ++ (orders cs ++ arrive frames)

-- how many verdicts are planned for these commands
abbrev pub letters_in : List Timed → ℕ
letters_in commands = sum_by (λ (c : Timed). length c.fate) commands

-- each of these steps may be made when its turn comes
abbrev pub CanFrom : Shape → Limits → World → List Step → Type 0
CanFrom t l w [] = Unit {0}
CanFrom t l w (x ∷ xs) = Can t w x × CanFrom t l (stepped t l x w).world xs

abbrev pub CanAll : Network → List Step → Type 0
CanAll n steps = CanFrom (shape_in n) (limits_in n) (world_of n) steps

-- a segment of an input that gives these commands and arrivals
pub record IsSegment (i : Input) (s : Segment) (seconds : ℕ) (cs : List Timed) (frames : List Arrival) : Type 0 where
  pub seconds_are : s.seconds ≡ seconds
  pub commands : filter_map (command_of (basis_of i)) s.commands ≡ map (λ (c : Timed). c.command) cs
  pub arrivals_are : s.arrivals ≡ frames

-- ---- a run so far
-- After the opening and these segments of an input, each settled and marked, this was told, with whether each relayed
-- frame passed, and this has left; these are the lines of the trace, where one is kept, and else there are none.
pub record HasPlayed (m : Mode) (i : Input) (so_far : List Segment) (n : Network) (events : List Event)
    (passed : List Bool) (left : List Left) (lines : List TraceLine) : Type 0 where
  pub done : Stepped
  pub plays : PlaysIn m i so_far done
  pub tree : shape_in n ≡ tree_of i
  pub limits : limits_in n ≡ bounds_of i
  pub world : world_of n ≡ done.world
  pub told : events ≡ done.events
  pub said : passed ≡ done.passed
  pub gone : left ≡ done.left
  pub traced : n.log.tracing ≡ true → lines ≡ all_told done.lines
  pub silent : n.log.tracing ≡ false → lines ≡ []

-- One segment more is played, whatever was played before: with what the network told and has left since then behind
-- that of before.
abbrev pub PlaysOn : Mode → ℕ → List Timed → List Arrival → Network → Network → Type 0
PlaysOn m seconds cs frames old new =
    (i : Input) (so_far : List Segment) (s : Segment) (events : List Event) (passed : List Bool) (left : List Left)
    (lines : List TraceLine) → IsSegment i s seconds cs frames →
    HasPlayed m i so_far old (events ++ old.log.events) (passed ++ old.log.passed) (left ++ all_left old.log.left)
    (lines ++ old.log.lines) →
    HasPlayed m i (so_far ++ s ∷ []) new (events ++ new.log.events) (passed ++ new.log.passed)
    (left ++ all_left new.log.left) (lines ++ new.log.lines)
