-- Worlds that a run of a valid setup reaches.
use Rattle.std.specs.Prelude.{◌≡◌, ◌≤◌, List, [], ◌∷◌, All}
use Rattle.exb_model.specs.declared.command.Command.{Command}
use Rattle.exb_model.specs.declared.command.Command.TheVariants as command
use Rattle.exb_model.specs.declared.setup.Setup.{Setup}
use Rattle.exb_model.specs.Setup.{Limits, IsValid, shape_of, limits_of, start_of}
use Rattle.exb_model.specs.Tree.{Shape}
use Rattle.exb_world_spec.specs.AllowedSteps.{Can}
use Rattle.exb_world_spec.specs.Settling.{run}
use Rattle.exb_world_spec.specs.Steps.{stepped}
use Rattle.exb_world_spec.specs.Worlds.{World, Step, Order, first_world}
use Rattle.exb_world_spec.specs.Runs.SessionLaws.{HasBytes}

-- a VLAN that a command sets as that of a port is 1 to 4094
abbrev pub HasVid : Command → Type 0
HasVid (command.Pvid p v) = (1 ≤ v) × (v ≤ 4094)
HasVid _ = Unit {0}

-- what a command that is given has by its type
abbrev pub HasVidIn : Step → Type 0
HasVidIn (Order c) = HasVid c
HasVidIn _ = Unit {0}

-- A step that may be made. That a frame is bytes and that a VLAN is in its range are facts of the code's types.
pub record MayTake (t : Shape) (w : World) (step : Step) : Type 0 where
  pub can : Can t w step
  pub has : HasBytes step
  pub vid : HasVidIn step

abbrev pub MayTakeAll : Shape → Limits → World → List Step → Type 0
MayTakeAll t l w [] = Unit {0}
MayTakeAll t l w (step ∷ steps) = MayTake t w step × MayTakeAll t l (stepped t l step w).world steps

-- the world as a setup begins
abbrev pub beginning : Setup → World
beginning s = first_world (shape_of s) (limits_of s) (start_of s) s.ageing

-- the world after these steps
abbrev pub reached_by : Setup → List Step → World
reached_by s steps = (run (shape_of s) (limits_of s) steps (beginning s)).world

-- A world that is reached: a valid setup began it, and steps that may be made led to it.
pub record IsReached (t : Shape) (l : Limits) (w : World) : Type 0 where
  pub setup : Setup
  pub steps : List Step
  pub valid : IsValid setup
  pub vids : All HasVid setup.start
  pub tree : t ≡ shape_of setup
  pub limits : l ≡ limits_of setup
  pub may : MayTakeAll (shape_of setup) (limits_of setup) (beginning setup) steps
  pub world : w ≡ reached_by setup steps
