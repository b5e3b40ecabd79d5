-- What a step makes of a live network.
use Rattle.std.specs.Prelude.{◌<◌, ◌^◌, ℕ, Bool}
use Rattle.exb_world_spec.specs.AllowedSteps.{Can}
use Rattle.exb_world_spec.specs.Runs.SessionLaws.{HasBytes}
use Rattle.exb_world_spec.specs.Steps.{done_by}
use Rattle.exb_world_spec.specs.Worlds.{Step}
use Rattle.exb_outbox.specs.declared.log.Log.{Log}
use Rattle.exb_bridge.specs.TreeIndexes.{Site, limits_in}
use Rattle.exb_world.specs.declared.parts.WorldParts.{WorldParts}
use Rattle.exb_world.specs.WorldContracts.{IsLive, IsStepped, network_of}
use Rattle.exb_world_spec.specs.Runs.ReachedWorlds.{HasVidIn, MayTake}
use Rattle.exb_world.specs.MachineWorlds.{world_in, Does}

-- The parts make a step: they are live behind it, and it is one of the network, whether memory had run out before or
-- not.
pub record Makes (step : Step) (s : Site) (c d : WorldParts) (old new : Log) : Type 0 where
  pub live : IsLive s d
  pub may : MayTake s.tree (world_in c) step
  pub made : (failed : Bool) → IsStepped step (network_of s c old failed) (network_of s d new failed)

-- Whatever step is made of it, it is live behind it.
abbrev pub StaysLive : Site → WorldParts → Type 0
StaysLive s c = (step : Step) (d : WorldParts) (old new : Log) → Can s.tree (world_in c) step → HasBytes step
    → HasVidIn step → ((n : ℕ) → ((world_in d).control.askers n).serial < 2 ^ 40) →
    Does (done_by s.tree (limits_in s) step (world_in c)) s d old new → IsLive s d
