-- Runs that play an input, segment by segment.
use Rattle.std.specs.Prelude.{◌≡◌, ℕ, ◌≤◌, ◌==◌, ◌++◌, if◌then◌else◌, List, [], ◌∷◌, filter_map, flat_map, All, AllPairs, IsPermutation}
use Rattle.exb_model.specs.declared.setup.Verdict.{Verdict}
use Rattle.exb_model.specs.History.{Basis, ◌then◌, command_of}
use Rattle.exb_model.specs.Input.{Input, Segment, Mode, Eager, basis_of, tree_of, bounds_of, segments}
use Rattle.exb_model.specs.EagerHistory.{eager}
use Rattle.exb_model.specs.LegalHistory.{Legal}
use Rattle.exb_model.specs.Lists.{Pairwise}
use Rattle.exb_model.specs.Setup.{Limits, IsValid, start_of}
use Rattle.exb_model.specs.Tree.{Shape}
use Rattle.exb_world_spec.specs.AllowedSteps.{IsSettled}
use Rattle.exb_world_spec.specs.Settling.{run, settled_within}
use Rattle.exb_world_spec.specs.Steps.{Stepped}
use Rattle.exb_world_spec.specs.Worlds.{World, Step, Tick, Mark, first_world}
use Rattle.exb_flight.specs.Items.{Each}
use Rattle.exb_world_laws.specs.WorldInput.{arrivals_of, commands_of}
use Rattle.exb_world_laws.specs.WorldInvariant.{given_in}
use Rattle.exb_world_spec.specs.Runs.ReachedWorlds.{HasVid}
use Rattle.exb_world_laws.specs.FrameBytes.{MayGoAll}

-- the seconds that pass
abbrev pub seconds_by : Step → List ℕ
seconds_by (Tick seconds) = seconds ∷ []
seconds_by _ = []

abbrev pub seconds_in : List Step → List ℕ
seconds_in [] = []
seconds_in (step ∷ steps) = seconds_by step ++ seconds_in steps

-- the step marks nothing
abbrev pub IsUnmarked : Step → Type 0
IsUnmarked Mark = ⊥
IsUnmarked _ = Unit {0}

-- Steps that give a segment: its seconds pass in one tick, where there are any; its commands are given, in order, and
-- its arrivals, each once and in any order; meanwhile nothing is marked.
pub record Gives (b : Basis) (s : Segment) (steps : List Step) : Type 0 where
  pub seconds : seconds_in steps ≡ (if s.seconds == 0 then [] else s.seconds ∷ [])
  pub commands : commands_of (given_in steps) ≡ filter_map (command_of b) s.commands
  pub arrivals : IsPermutation (arrivals_of (given_in steps)) s.arrivals
  pub unmarked : Each IsUnmarked steps

-- They play it where the world is settled at their end.
pub record Plays (t : Shape) (l : Limits) (b : Basis) (s : Segment) (w : World) (steps : List Step) : Type 0 where
  pub gives : Gives b s steps
  pub settled : IsSettled t (run t l steps w).world

-- the opening is a segment in which nothing is given
abbrev pub nothing_given : Segment
nothing_given = record { seconds = 0; commands = []; arrivals = [] }

-- each is followed by a mark
abbrev pub marked_each : List (List Step) → List Step
marked_each plays = flat_map (λ (xs : List Step). xs ++ Mark ∷ []) plays

abbrev pub PlayAll : Shape → Limits → Basis → World → List Segment → List (List Step) → Type 0
PlayAll t l b w [] [] = Unit {0}
PlayAll t l b w (s ∷ ss) (xs ∷ plays) = Plays t l b s w xs × PlayAll t l b (run t l (xs ++ Mark ∷ []) w).world ss plays
PlayAll t l b w [] (xs ∷ plays) = ⊥
PlayAll t l b w (s ∷ ss) [] = ⊥

-- The seconds of the commands don't fall, as in each topology file that is read.
abbrev pub IsTimely : Input → Type 0
IsTimely i = AllPairs (λ c d. c.at ≤ d.at) i.commands

-- A run that plays the opening and then the segments of an input, in the eager mode or in a seeded one, each settled
-- and marked, tells a history that the input allows.
abbrev pub RunsPlayLegally : Type 0
RunsPlayLegally =
    (m : Mode) (i : Input) (plays : List (List Step)) → IsValid i.setup → All HasVid i.setup.start → IsTimely i →
    let w = first_world (tree_of i) (bounds_of i) (start_of i.setup) i.setup.ageing in
    MayGoAll (tree_of i) (bounds_of i) w (marked_each plays)
    → PlayAll (tree_of i) (bounds_of i) (basis_of i) w (nothing_given ∷ segments m i) plays →
    Legal m i ([] then (run (tree_of i) (bounds_of i) (marked_each plays) w).events)

-- ---- the eager run
-- the seconds of a segment pass first
pub record IsEager (s : Segment) (steps : List Step) : Type 0 where
  pub rest : List Step
  pub is : steps ≡ (if s.seconds == 0 then [] else Tick s.seconds ∷ []) ++ rest

-- A run that plays the opening and then the segments of the eager mode, the seconds of each first, tells exactly the
-- eager history, whatever the links do.
abbrev pub RunsPlayEagerly : Type 0
RunsPlayEagerly =
    (i : Input) (first : List Step) (plays : List (List Step)) → IsValid i.setup → All HasVid i.setup.start
    → IsTimely i →
    let w = first_world (tree_of i) (bounds_of i) (start_of i.setup) i.setup.ageing in
    MayGoAll (tree_of i) (bounds_of i) w (marked_each (first ∷ plays))
    → PlayAll (tree_of i) (bounds_of i) (basis_of i) w (nothing_given ∷ segments Eager i) (first ∷ plays) →
    Pairwise IsEager (segments Eager i) plays
    → ([] then (run (tree_of i) (bounds_of i) (marked_each (first ∷ plays)) w).events) ≡ eager i

-- ---- settling
-- Steps that give a segment, and then settling: they play it, where settling ends settled.
pub record IsPlayedBy (t : Shape) (l : Limits) (b : Basis) (s : Segment) (w : World) (steps : List Step)
    (done : Stepped) : Type 0 where
  pub more : List Step
  pub is : done ≡ run t l more (run t l steps w).world
  pub plays : Plays t l b s w (steps ++ more)

abbrev pub SettlingPlays : Type 0
SettlingPlays =
    (t : Shape) (l : Limits) (b : Basis) (s : Segment) (w : World) (steps : List Step) (verdicts : List Verdict) (n : ℕ)
    → Gives b s steps →
    let done = (settled_within t l n (run t l steps w).world verdicts).done in
    IsSettled t done.world → IsPlayedBy t l b s w steps done
