-- What moves a network: steps of the machine, one after another.
use Rattle.std.specs.Prelude.{◌≡◌, ◌++◌, true, false, List, [], ◌∷◌}
use Rattle.exb_world_spec.specs.AllowedSteps.{IsSettled}
use Rattle.exb_world_spec.specs.Settling.{run}
use Rattle.exb_world_spec.specs.Steps.{Stepped}
use Rattle.exb_world_spec.specs.TraceLines.{all_told}
use Rattle.exb_world_spec.specs.Worlds.{Step, Mark}
use Rattle.exb_world_spec.specs.Runs.SessionLaws.{IsMove}
use Rattle.exb_world_spec.specs.Runs.Sessions.{Each}
use Rattle.exb_world.specs.WorldContracts.{Network, world_of, tree_of, bounds_of, IsSame}
use Rattle.exb_bridge.specs.BridgeWorlds.{all_left}
use Rattle.exb_world_spec.specs.Runs.ReachedWorlds.{MayTakeAll}

-- The network is where this was done: its world is that, and what was told and has left stands behind what was told and
-- had left before; so do the lines of its trace, where one is kept, and else none is added.
pub record IsMoved (done : Stepped) (old new : Network) : Type 0 where
  pub world : world_of new ≡ done.world
  pub events : new.log.events ≡ old.log.events ++ done.events
  pub passed : new.log.passed ≡ old.log.passed ++ done.passed
  pub left : all_left new.log.left ≡ all_left old.log.left ++ done.left
  pub lines : old.log.tracing ≡ true → new.log.lines ≡ old.log.lines ++ all_told done.lines
  pub silent : old.log.tracing ≡ false → new.log.lines ≡ old.log.lines
  pub same : IsSame old new

-- It made these steps, each of which might be made when its turn came.
pub record HasRun (steps : List Step) (old new : Network) : Type 0 where
  pub may : MayTakeAll (tree_of old) (bounds_of old) (world_of old) steps
  pub moved : IsMoved (run (tree_of old) (bounds_of old) steps (world_of old)) old new

-- This was done by moves alone: words were carried, delivered or lost, and beats passed.
pub record HasGone (done : Stepped) (old new : Network) : Type 0 where
  pub steps : List Step
  pub moves : Each IsMove steps
  pub is : done ≡ run (tree_of old) (bounds_of old) steps (world_of old)
  pub made : HasRun steps old new

-- It settled, by moves alone, and was marked.
pub record HasEnded (old new : Network) : Type 0 where
  pub steps : List Step
  pub moves : Each IsMove steps
  pub settled : IsSettled (tree_of old) (run (tree_of old) (bounds_of old) steps (world_of old)).world
  pub made : HasRun (steps ++ Mark ∷ []) old new
