-- What steps leave of a world that a run of a valid setup reaches, whatever was given, told and had left when it stood
-- before them.
use Rattle.std.specs.Prelude.{◌≡◌, ℕ, ◌≤◌, ◌++◌, true, List, [], filter_map, flat_map, length, All, Contains, IsPermutation}
use Rattle.exb_model.specs.declared.setup.Setup.{Setup}
use Rattle.exb_model.specs.History.{Basis, History, ◌then◌, command_of}
use Rattle.exb_model.specs.declared.arrival.Arrival.{Arrival}
use Rattle.exb_model.specs.Input.{Input, Segment, Mode, tree_of, bounds_of}
use Rattle.exb_model.specs.Input.{basis_of as basis_in}
use Rattle.exb_model.specs.LegalHistory.{place_of}
use Rattle.exb_model.specs.Setup.{Limits, IsValid, shape_of, limits_of}
use Rattle.exb_model.specs.Tree.{Shape, is_external}
use Rattle.exb_world_spec.specs.Settling.{run}
use Rattle.exb_world_spec.specs.Steps.{Stepped}
use Rattle.exb_world_spec.specs.Worlds.{World, Step, Left, left_at}
use Rattle.exb_world_spec.specs.Runs.PassedFrames.{passed_over}
use Rattle.exb_world_spec.specs.Runs.Sessions.{Each}
use Rattle.exb_flight.specs.Promises.{IsClean}
use Rattle.exb_world_laws.specs.WorldInput.{Given, arrivals_of, commands_of, basis_with}
use Rattle.exb_world_laws.specs.WorldInvariant.{basis_of, given_in}
use Rattle.exb_world_spec.specs.Runs.ReachedWorlds.{HasVid, MayTakeAll, beginning, reached_by}
use Rattle.exb_world_laws.specs.OneBridgeSteps.{IsGiving, IsOneEvent}
use Rattle.exb_world_laws.specs.OneBridge.{Stands}
use Rattle.exb_world_laws.specs.Runs.Crossings.{IsAlone}
use Rattle.exb_world_laws.specs.Runs.SegmentRuns.{PlaysIn, arrivals_in}

-- a frame that left an external port, at the moment of one of these arrivals, with at most 9,220 bytes
pub record IsCopyOut (t : Shape) (arrivals : List Arrival) (x : Left) : Type 0 where
  pub port : is_external t x.port ≡ true
  pub arrival : Arrival
  pub of_it : Contains arrivals arrival
  pub moment : x.moment ≡ arrival.moment
  pub short : length x.bytes ≤ 9220

-- It stands with what the steps give, tell and make leave; they say of each Relay among their events whether its frame
-- passed in the configuration before it; and what they make leave are copies of what was given. What has left a port is
-- no more than the arrivals of which was told: each is told once.
pub record IsLastingWith (t : Shape) (l : Limits) (w : World) (steps : List Step) (i : Basis) (g : List Given)
    (h : History) (left : List Left) : Type 0 where
  pub stands : Stands t l i (run t l steps w).world (g ++ given_in steps) (h then (run t l steps w).events)
      (left ++ (run t l steps w).left)
  pub passed : (run t l steps w).passed ≡ passed_over (basis_with i (g ++ given_in steps)) h (run t l steps w).events
  pub copies : Each (IsCopyOut t (arrivals_of (g ++ given_in steps))) (run t l steps w).left
  pub few : (q : ℕ) → is_external t q ≡ true → length (left_at q (left ++ (run t l steps w).left))
      ≤ length (filter_map place_of (h then (run t l steps w).events))

-- Its links are clean, and its ageing time is what it was.
pub record IsLasting (t : Shape) (l : Limits) (w : World) (steps : List Step) : Type 0 where
  pub with : (i : Basis) → i.ageing ≡ w.table.ageing → (g : List Given) (h : History) (left : List Left)
      → Stands t l i w g h left → IsLastingWith t l w steps i g h left
  pub clean : IsClean t (run t l steps w).world
  pub ageing : (run t l steps w).world.table.ageing ≡ w.table.ageing

abbrev pub RunsLast : Type 0
RunsLast =
    (s : Setup) (before steps : List Step) → IsValid s → All HasVid s.start
    → MayTakeAll (shape_of s) (limits_of s) (beginning s) before
    → MayTakeAll (shape_of s) (limits_of s) (reached_by s before) steps →
    IsLasting (shape_of s) (limits_of s) (reached_by s before) steps

-- Where it is settled, is given an arrival or a command and settles by moves, just what becomes of that by the rule of
-- the eager history is told, and just what the one bridge sends for it leaves.
abbrev pub EventsLast : Type 0
EventsLast =
    (s : Setup) (before : List Step) (step : Step) (moves : List Step) → IsGiving step → IsAlone s before step moves →
    (i : Basis) → i.ageing ≡ (reached_by s before).table.ageing → (g : List Given) (h : History) (left : List Left)
    → Stands (shape_of s) (limits_of s) i (reached_by s before) g h left →
    IsOneEvent (shape_of s) (limits_of s) i (reached_by s before) g h left step moves

-- A run that has played the opening and some segments of an input stands with what they give, each arrival once, and
-- its links are clean.
pub record IsPlayedStanding (i : Input) (so_far : List Segment) (done : Stepped) : Type 0 where
  pub given : List Given
  pub commands : commands_of given ≡ flat_map (λ (s : Segment). filter_map (command_of (basis_in i)) s.commands) so_far
  pub arrivals : IsPermutation (arrivals_of given) (arrivals_in so_far)
  pub stands : Stands (tree_of i) (bounds_of i) (basis_of i.setup) done.world given ([] then done.events) done.left
  pub clean : IsClean (tree_of i) done.world

abbrev pub PlaysStand : Type 0
PlaysStand = (m : Mode) (i : Input) (so_far : List Segment) (done : Stepped) → PlaysIn m i so_far done
    → IsPlayedStanding i so_far done
