-- The laws on settling.
use Rattle.std.specs.Prelude.{◌≡◌, ◌⊎◌, ℕ, zero, suc, ◌≤◌, ◌<◌, true, List, [], ◌∷◌, map}
use Rattle.exb_model.specs.declared.setup.Setup.{Setup}
use Rattle.exb_model.specs.declared.setup.Verdict.{Verdict}
use Rattle.exb_model.specs.Rounds.{rounds}
use Rattle.exb_model.specs.Setup.{Limits, IsValid, shape_of, limits_of, start_of}
use Rattle.exb_model.specs.Tree.{Shape, IsTree, is_extender}
use Rattle.exb_control_spec.specs.Runs.OpeningOrder.{InTurn}
use Rattle.exb_control_spec.specs.Runs.PlannedChanges.{IsSetting}
use Rattle.exb_world_spec.specs.Worlds.{World, Step, Beat, Up, first_world}
use Rattle.exb_world_spec.specs.AllowedSteps.{Can}
use Rattle.exb_world_spec.specs.Steps.{stepped}
use Rattle.exb_world_spec.specs.Settling.{run, round, direction, deepest_first, directions, through_all, settled_within, is_settled, planned_in}
use Rattle.exb_world_spec.specs.Runs.SessionLaws.{AreBytes}
use Rattle.exb_world_spec.specs.Runs.Simulation.{IsSound}
use Rattle.exb_settling_laws.specs.SettlingBound.{costs}
use Rattle.exb_settling_laws.specs.SettlingFacts.{Facts, OnLink}
use Rattle.exb_settling_laws.specs.SessionInvariant.{IsGoing, HasRoom, IsOrderly}

-- ---- worlds of which the laws speak
-- a step on a link that may be made, or a beat
abbrev pub MayMove : Shape → World → Step → Type 0
MayMove t w step = (OnLink step × Can t w step) ⊎ (step ≡ Beat)

abbrev pub MayMoveAll : Shape → Limits → World → List Step → Type 0
MayMoveAll t l w [] = Unit {0}
MayMoveAll t l w (step ∷ steps) = MayMove t w step × MayMoveAll t l (stepped t l step w).world steps

-- Whatever words are delivered, lost or repeated, in whatever order, and whatever beats pass, the world has the facts.
pub record KeepsFacts (t : Shape) (l : Limits) (w : World) : Type 0 where
  pub each : (steps : List Step) → MayMoveAll t l w steps → Facts t l (run t l steps w).world

-- Likewise, a world stays orderly.
pub record KeepsOrder (t : Shape) (l : Limits) (w : World) : Type 0 where
  pub each : (steps : List Step) → MayMoveAll t l w steps → IsOrderly t (run t l steps w).world

-- Then it keeps the facts, where it is going.
abbrev pub OrderKeepsFacts : Type 0
OrderKeepsFacts = (t : Shape) (l : Limits) (w : World) → IsSetting t l → IsGoing t l w → KeepsOrder t l w
    → KeepsFacts t l w

-- A sound world in which extenders are asked in their turn, whose words are bytes and whose serials have room, is
-- orderly.
abbrev pub TurnsAreOrderly : Type 0
TurnsAreOrderly = (t : Shape) (l : Limits) (w : World) → IsSetting t l → IsSound t l w → InTurn t w.control → AreBytes w
    → HasRoom w.control.askers → IsOrderly t w

-- The world of each valid setup begins going.
abbrev pub SetupsBeginGoing : Type 0
SetupsBeginGoing = (s : Setup) → IsValid s → IsSetting (shape_of s) (limits_of s)
    × IsGoing (shape_of s) (limits_of s) (first_world (shape_of s) (limits_of s) (start_of s) s.ageing)

-- The world of each valid setup has the facts as it begins.
abbrev pub SetupsHaveFacts : Type 0
SetupsHaveFacts = (s : Setup) → IsValid s
    → Facts (shape_of s) (limits_of s) (first_world (shape_of s) (limits_of s) (start_of s) s.ageing)

-- ---- settling
-- With verdicts of which at most b aren't Pass, settling ends within so many rounds.
abbrev pub SettlingEnds : Type 0
SettlingEnds =
    (t : Shape) (l : Limits) (w : World) → IsTree t → KeepsFacts t l w → (b : ℕ) (verdicts : List Verdict)
    → costs verdicts ≤ b →
    is_settled t (settled_within t l (rounds b (planned_in t l w)) w verdicts).done.world ≡ true

-- ---- rounds
-- no verdict but Pass was spent, and the round is one in which each word passes
pub record IsPassing (t : Shape) (l : Limits) (w : World) (verdicts : List Verdict) : Type 0 where
  pub costs_is : costs (round t l w verdicts).verdicts ≡ costs verdicts
  pub world : (round t l w verdicts).done.world ≡ (round t l w []).done.world

-- A round spends a verdict that isn't Pass, or is one in which each word passes.
abbrev pub RoundsSpend : Type 0
RoundsSpend = (t : Shape) (l : Limits) (w : World) (verdicts : List Verdict)
    → (costs (round t l w verdicts).verdicts < costs verdicts) ⊎ IsPassing t l w verdicts

-- No round plans anything.
abbrev pub RoundsPlanNothing : Type 0
RoundsPlanNothing =
    (t : Shape) (l : Limits) (w : World) (verdicts : List Verdict) → IsTree t → KeepsFacts t l w
    → planned_in t l (round t l w verdicts).done.world ≤ planned_in t l w

-- the links in a round in which each word passes: what stands on the way up when it begins or comes up from below goes
-- to the bridge, and then what stands on the way down or goes down meanwhile goes to its extenders
pub record AllArrive (t : Shape) (l : Limits) (w : World) : Type 0 where
  pub ups : (m : ℕ) → is_extender t m ≡ true
      → (through_all t l (map (direction Up) (deepest_first t 64)) w []).done.world.up m ≡ []
  pub downs : (m : ℕ) → is_extender t m ≡ true → (through_all t l (directions t) w []).done.world.down m ≡ []

abbrev pub RoundsDeliver : Type 0
RoundsDeliver = (t : Shape) (l : Limits) (w : World) → IsTree t → KeepsFacts t l w → AllArrive t l w

-- ---- windows
-- so many rounds in which each word passes
abbrev pub passing_rounds : Shape → Limits → ℕ → World → World
passing_rounds t l zero w = w
passing_rounds t l (suc n) w = passing_rounds t l n (round t l w []).done.world

-- a planned exchange is done, or the world is settled
pub record GetsOn (t : Shape) (l : Limits) (w : World) : Type 0 where
  pub count : ℕ
  pub few : count ≤ 64
  pub done : (planned_in t l (passing_rounds t l count w) < planned_in t l w)
      ⊎ (is_settled t (passing_rounds t l count w) ≡ true)

-- Within 64 rounds in which each word passes it is so.
abbrev pub WindowsGetOn : Type 0
WindowsGetOn = (t : Shape) (l : Limits) (w : World) → IsTree t → KeepsFacts t l w → GetsOn t l w
