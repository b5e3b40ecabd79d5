-- What a round makes of a world, and what no step changes.
use Rattle.std.specs.Prelude.{◌≡◌, ◌⊎◌, ℕ, ◌+◌, ◌≤◌, Bool, true, false, List, [], ◌∷◌, ◌++◌, length, filter, sum_by, ⊤}
use Rattle.exb_model.specs.declared.setup.Verdict.{Verdict}
use Rattle.exb_model.specs.Setup.{Limits}
use Rattle.exb_model.specs.Tree.{Shape, IsTree, is_extender}
use Rattle.exb_link.specs.declared.link_frame.LinkFrame.{LinkFrame}
use Rattle.exb_link.specs.LinkFrames.{is_control}
use Rattle.exb_world_spec.specs.Settling.{Direction, directions, round, run}
use Rattle.exb_world_spec.specs.Steps.{stepped, words_on}
use Rattle.exb_world_spec.specs.Worlds.{World, Way, Step, Lose, next_beat}
use Rattle.exb_world_spec.specs.Runs.SessionLaws.{IsMove}
use Rattle.exb_world_spec.specs.Runs.Sessions.{Each}
use Rattle.exb_settling_laws.specs.SettlingBound.{costs}

-- No step changes the ageing time.
abbrev pub AgeingStays : Type 0
AgeingStays = (t : Shape) (l : Limits) (step : Step) (w : World) → (stepped t l step w).world.table.ageing
    ≡ w.table.ageing

-- ---- what stays of a list, in order
abbrev pub IsPart : {A : Type 0} → List A → List A → Type 0
IsPart [] ys = ⊤
IsPart (x ∷ xs) [] = ⊥
IsPart (x ∷ xs) (y ∷ ys) = ((x ≡ y) × IsPart xs ys) ⊎ IsPart (x ∷ xs) ys

-- Of the words that stood in a direction these still stand there, control words alone; behind them stands what was sent
-- since.
pub record IsGoneThrough (n : ℕ) (way : Way) (stood : List LinkFrame) (w v : World) : Type 0 where
  pub sent : List LinkFrame
  pub is : words_on n way v ≡ stood ++ sent
  pub part : IsPart stood (words_on n way w)
  pub control : Each (λ (x : LinkFrame). is_control x ≡ true) stood

abbrev pub is_lost : Step → Bool
is_lost (Lose n way k) = true
is_lost _ = false

-- ---- a round
-- It is made of moves alone, one beat is counted, unless its number is the last one, and each direction is gone
-- through. What still stands of what stood there, over all directions, and the words that were lost are at most as many
-- as the verdicts that it spent.
pub record IsWhole (t : Shape) (l : Limits) (w : World) (verdicts : List Verdict) : Type 0 where
  pub steps : List Step
  pub moves : Each IsMove steps
  pub is : (round t l w verdicts).done ≡ run t l steps w
  pub beats : (round t l w verdicts).done.world.beats ≡ next_beat w.beats
  pub stood : Way → ℕ → List LinkFrame
  pub gone : (n : ℕ) (way : Way) → is_extender t n ≡ true
      → IsGoneThrough n way (stood way n) w (round t l w verdicts).done.world
  pub few : sum_by (λ (d : Direction). length (stood d.way d.link)) (directions t) + length (filter is_lost steps)
      + costs (round t l w verdicts).verdicts ≤ costs verdicts

abbrev pub RoundsAreWhole : Type 0
RoundsAreWhole = (t : Shape) (l : Limits) → IsTree t → (w : World) (verdicts : List Verdict) → IsWhole t l w verdicts
