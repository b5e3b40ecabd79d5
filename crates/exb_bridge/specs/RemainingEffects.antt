-- How effects are done one after another.
use Rattle.std.specs.Prelude.{◌≡◌, ◌++◌}
use Rattle.exb_world_spec.specs.Effects.{Effect}
use Rattle.exb_world_spec.specs.TraceLines.{all_told}
use Rattle.exb_outbox.specs.declared.log.Log.{Log}
use Rattle.exb_outbox.specs.Logs.{if_tracing}
use Rattle.exb_bridge.specs.BridgeWorlds.{all_left}

-- Of a whole effect that began with a log this rest is still to be done: it leads to the same world, and what it tells
-- stands behind what was told so far.
pub record Leads (whole rest : Effect) (old so_far : Log) : Type 0 where
  pub world : rest.world ≡ whole.world
  pub events : so_far.events ++ rest.events ≡ old.events ++ whole.events
  pub passed : so_far.passed ++ rest.passed ≡ old.passed ++ whole.passed
  pub left : all_left so_far.left ++ rest.left ≡ all_left old.left ++ whole.left
  pub outs : so_far.outs.items ++ if_tracing so_far.tracing (all_told rest.outs)
      ≡ old.outs.items ++ if_tracing old.tracing (all_told whole.outs)
  pub lines : so_far.lines ≡ old.lines
  pub tracing : so_far.tracing ≡ old.tracing
