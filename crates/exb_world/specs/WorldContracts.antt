-- What a network is to its contracts: its parts, and the world of the machine for which they stand.
use Rattle.std.specs.Prelude.{◌≡◌, ◌++◌, Bool, true, false, []}
use Rattle.exb_model.specs.Tree.{Shape}
use Rattle.exb_model.specs.Setup.{Limits}
use Rattle.exb_world_spec.specs.Worlds.{World, Step, Arrive, Carry, Control, Lose, Beat, Tick, Order, Mark}
use Rattle.exb_world_spec.specs.Steps.{stepped}
use Rattle.exb_world_spec.specs.TraceLines.{all_told}
use Rattle.exb_outbox.specs.declared.log.Log.{Log}
use Rattle.exb_world.specs.declared.parts.WorldParts.{WorldParts}
use Rattle.exb_world.specs.declared.step.Step.{Step as Made}
use Rattle.exb_world.specs.declared.step.Step.TheVariants as made
use Rattle.exb_world_spec.specs.Runs.Simulation.{IsSound}
use Rattle.exb_world_spec.specs.Runs.FrameBytes.{AreWritten}
use Rattle.exb_bridge.specs.TreeIndexes.{Site, limits_in}
use Rattle.exb_world.specs.Steps.{way_of}
use Rattle.exb_world_spec.specs.Runs.ReachedWorlds.{IsReached}
use Rattle.exb_bridge.specs.BridgeWorlds.{all_left}
use Rattle.exb_world.specs.MachineWorlds.{world_in, IsAt}

-- what never changes, the parts, what has happened, and whether memory ran out
pub record Network : Type 0 where
  pub site : Site
  pub core : WorldParts
  pub log : Log
  pub failed : Bool

abbrev pub network_of : Site → WorldParts → Log → Bool → Network
network_of s c log failed = record { site = s; core = c; log = log; failed = failed }

abbrev pub world_of : Network → World
world_of n = world_in n.core

abbrev pub tree_of : Network → Shape
tree_of n = n.site.tree

abbrev pub bounds_of : Network → Limits
bounds_of n = limits_in n.site

-- ---- steps
-- a step of the code as one of the machine
abbrev pub step_of : Made → Step
step_of (made.Arrive a) = Arrive a.now
step_of (made.Carry n way) = Carry n (way_of way)
step_of (made.Control n way k keep) = Control n (way_of way) k keep
step_of (made.Lose n way k) = Lose n (way_of way) k
step_of made.Beat = Beat
step_of (made.Tick seconds) = Tick seconds
step_of (made.Command c) = Order c.now
step_of made.Mark = Mark

-- The same tree and limits, memory as before, and a trace is kept as before.
pub record IsSame (old new : Network) : Type 0 where
  pub site : new.site ≡ old.site
  pub failed : new.failed ≡ old.failed
  pub tracing : new.log.tracing ≡ old.log.tracing

-- nothing is told
pub record IsQuiet (n : Network) : Type 0 where
  pub events : n.log.events ≡ []
  pub passed : n.log.passed ≡ []
  pub left : n.log.left ≡ []
  pub lines : n.log.lines ≡ []

-- The network made this step of the machine: the world is that of the step, and what the step tells stands behind what
-- was told before, its lines too where a trace is kept.
pub record IsStepped (step : Step) (old new : Network) : Type 0 where
  pub world : world_of new ≡ (stepped (tree_of old) (bounds_of old) step (world_of old)).world
  pub events : new.log.events ≡ old.log.events ++ (stepped (tree_of old) (bounds_of old) step (world_of old)).events
  pub passed : new.log.passed ≡ old.log.passed ++ (stepped (tree_of old) (bounds_of old) step (world_of old)).passed
  pub left : all_left new.log.left ≡ all_left old.log.left
      ++ (stepped (tree_of old) (bounds_of old) step (world_of old)).left
  pub lines : old.log.tracing ≡ true → new.log.lines ≡ old.log.lines ++ all_told
      (stepped (tree_of old) (bounds_of old) step (world_of old)).lines
  pub silent : old.log.tracing ≡ false → new.log.lines ≡ old.log.lines
  pub same : IsSame old new

-- ---- what the type keeps, while memory hasn't run out
pub record IsLive (s : Site) (c : WorldParts) : Type 0 where
  pub at : IsAt s c
  pub sound : IsSound s.tree (limits_in s) (world_in c)
  pub written : AreWritten (world_in c)
  pub reached : IsReached s.tree (limits_in s) (world_in c)

abbrev pub IsKept : Site → WorldParts → Bool → Type 0
IsKept s c failed = failed ≡ false → IsLive s c
