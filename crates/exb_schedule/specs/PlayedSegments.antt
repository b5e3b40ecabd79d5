-- What a schedule makes of a segment, whatever the network has done before.
use Rattle.std.specs.Prelude.{◌≡◌, ℕ, ◌++◌, List, [], ◌∷◌, map, IsPermutation}
use Rattle.exb_model.specs.declared.setup.Timed.{Timed}
use Rattle.exb_world_spec.specs.AllowedSteps.{IsSettled}
use Rattle.exb_world_spec.specs.Settling.{run}
use Rattle.exb_world_spec.specs.Worlds.{Step, Mark}
use Rattle.exb_world_spec.specs.Runs.SessionLaws.{IsMove}
use Rattle.exb_world_spec.specs.Runs.Sessions as machine
use Rattle.exb_flight.specs.Items.{Each}
use Rattle.exb_world_laws.specs.WorldInput.{arrivals_of, commands_of}
use Rattle.exb_world_laws.specs.WorldInvariant.{given_in}
use Rattle.exb_world_laws.specs.SegmentRuns.{seconds_in, IsUnmarked}
use Rattle.exb_world.specs.WorldContracts.{Network, world_of, tree_of, bounds_of}
use Rattle.exb_model.specs.declared.arrival.Arrival.{Arrival}
use Rattle.exb_schedule.specs.SeededSegments.{seconds_of}
use Rattle.exb_schedule.specs.StepSequences.{HasRun}

-- These steps let the seconds pass in one tick, where there are any, and give the commands, in order, and the arrivals,
-- each once and in any order; none of them marks.
pub record GivesThese (seconds : ℕ) (cs : List Timed) (frames : List Arrival) (steps : List Step) : Type 0 where
  pub time : seconds_in steps ≡ seconds_of seconds
  pub commands : commands_of (given_in steps) ≡ map (λ (c : Timed). c.command) cs
  pub arrivals : IsPermutation (arrivals_of (given_in steps)) frames
  pub unmarked : Each IsUnmarked steps

-- These steps were made, each of which might be made when its turn came; then all settled, by moves alone, and was
-- marked.
pub record IsPlayedOut (steps : List Step) (old new : Network) : Type 0 where
  pub moves : List Step
  pub only : machine.Each IsMove moves
  pub settled : IsSettled (tree_of old) (run (tree_of old) (bounds_of old) (steps ++ moves) (world_of old)).world
  pub made : HasRun ((steps ++ moves) ++ Mark ∷ []) old new

-- So were steps that give all of a segment.
pub record IsDrawnOut (seconds : ℕ) (cs : List Timed) (frames : List Arrival) (old new : Network) : Type 0 where
  pub steps : List Step
  pub gives : GivesThese seconds cs frames steps
  pub played : IsPlayedOut steps old new
