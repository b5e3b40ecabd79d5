-- What a world promises after a history, of which so much has left its ports.
use Rattle.std.specs.Prelude.{◌≡◌, ℕ, ◌++◌, true, List, [], nat_lt, if◌then◌else◌}
use Rattle.exb_model.specs.Tree.{Shape, trunk, is_external}
use Rattle.exb_model.specs.Setup.{Limits}
use Rattle.exb_model.specs.History.{Basis, History, ◌then◌, bridge_after, now_after}
use Rattle.exb_model.specs.FlatBridge.{Sent, flat}
use Rattle.exb_learn.specs.Histories.{table_after}
use Rattle.exb_csp.specs.AllTables.{tables_at}
use Rattle.exb_control_spec.specs.Runs.PlannedChanges.{IsSetting}
use Rattle.exb_control_spec.specs.Runs.InitialMachine.{MayBegin}
use Rattle.exb_world_spec.specs.Worlds.{World, Step, Left, first_world, left_at}
use Rattle.exb_world_spec.specs.AllowedSteps.{IsSettled}
use Rattle.exb_world_spec.specs.Settling.{run}
use Rattle.exb_world_spec.specs.Runs.Simulation.{system_of}
use Rattle.exb_world_spec.specs.Runs.SessionLaws.{HasFewPorts}
use Rattle.exb_flight.specs.Items.{Each}
use Rattle.exb_flight.specs.Tree.{IsLink}
use Rattle.exb_flight.specs.DownwardFrames.{owed}
use Rattle.exb_flight.specs.FlightFacts.{CleanDown, CleanUp}
use Rattle.exb_flight.specs.Tokens.{data_words}
use Rattle.exb_flight.specs.SimulationRelation.{Stood}
use Rattle.exb_flight.specs.Simulation.{MayFlyAll}

-- ---- what is owed
-- what the downward data words will leave at port q: nothing at a port of the bridge
unfoldable pub owed_at : Shape → World → ℕ → List Sent
owed_at t w q = if nat_lt q 64 then [] else owed t (tables_at (λ n. (w.far n).tables)) (λ n. data_words (w.down n)) q

-- what has left each external port, followed by what is owed to it, is what the one bridge sends there
abbrev pub IsEven : Shape → Basis → World → History → List Left → Type 0
IsEven t i w h left = (q : ℕ) → is_external t q ≡ true → left_at q left ++ owed_at t w q ≡ flat i h q

-- ---- the links
-- No downward word has a free number, an ingress number names no port of the set but the word's own, and an upward word
-- has the channel that the bridge holds for the port of its stamp.
pub record IsClean (t : Shape) (w : World) : Type 0 where
  pub down : (n : ℕ) → IsLink t n → Each (CleanDown t (system_of w) (trunk t n)) (data_words (w.down n))
  pub up : (n : ℕ) → IsLink t n → Each (CleanUp t w.control.held (trunk t n)) (data_words (w.up n))

-- ---- configuration and table
-- the configuration, the clock and what was learned are those of the history
pub record IsInForce (i : Basis) (w : World) (h : History) : Type 0 where
  pub bridge : bridge_after i h ≡ w.control.bridge
  pub table : w.table ≡ table_after i h
  pub clock : w.table.clock ≡ now_after h

-- ---- a settled world
-- nothing is owed, so what has left is what the one bridge sends
abbrev pub IsQuits : Shape → Basis → World → History → List Left → Type 0
IsQuits t i w h left = IsSettled t w → (q : ℕ) → is_external t q ≡ true → (owed_at t w q ≡ [])
    × (left_at q left ≡ flat i h q)

pub record Promises (t : Shape) (l : Limits) (i : Basis) (w : World) (h : History) (left : List Left) : Type 0 where
  pub even : IsEven t i w h left
  pub clean : IsClean t w
  pub force : IsInForce i w h
  pub quits : IsQuits t i w h left

-- ---- the laws
-- What stands keeps these promises.
abbrev pub StoodPromises : Type 0
StoodPromises = (t : Shape) (l : Limits) (i : Basis) → IsSetting t l → (w : World) (h : History) (left : List Left)
    → Stood t l i w h left → Promises t l i w h left

-- It stands as it begins.
abbrev pub BeginsStood : Type 0
BeginsStood =
    (t : Shape) (l : Limits) (i : Basis) → IsSetting t l → HasFewPorts t → MayBegin t l i.start
    → Stood t l i (first_world t l i.start i.ageing) [] []

-- It stands after any steps that may be made.
abbrev pub RunsStand : Type 0
RunsStand =
    (t : Shape) (l : Limits) (i : Basis) → IsSetting t l → (w : World) (h : History) (left : List Left)
    → Stood t l i w h left →
    (steps : List Step) → MayFlyAll t l i w steps →
    Stood t l i (run t l steps w).world (h then (run t l steps w).events) (left ++ (run t l steps w).left)

-- Over every list of steps from the beginning the promises hold.
abbrev pub WorldsPromise : Type 0
WorldsPromise =
    (t : Shape) (l : Limits) (i : Basis) (steps : List Step) → IsSetting t l → HasFewPorts t → MayBegin t l i.start →
    let w = first_world t l i.start i.ageing in
    MayFlyAll t l i w steps → Promises t l i (run t l steps w).world ([] then (run t l steps w).events)
    (run t l steps w).left
