-- The lines of a step in the log: those of its beginning, and those of its end.
use Rattle.std.specs.Prelude.{◌≡◌, ◌≤◌, ℕ, ◌++◌, List, [], true, length, map}
use Rattle.exb_model.specs.declared.event.Event.{Event}
use Rattle.exb_model.specs.Traces.{TraceLine}
use Rattle.exb_world_spec.specs.TraceLines.{all_told}
use Rattle.exb_world_spec.specs.Worlds.{Journal}
use Rattle.exb_outbox.specs.declared.log.Log.{Log}
use Rattle.exb_outbox.specs.Logs.{if_tracing}

-- What comes in is told, and nothing has gone out yet. Where a trace is kept `from` is how many events were told
-- before.
pub record IsBegun (ins : List TraceLine) (from : ℕ) (old begun : Log) : Type 0 where
  pub few : from ≤ length old.events
  pub before : old.tracing ≡ true → from ≡ length old.events
  pub events : begun.events ≡ old.events
  pub passed : begun.passed ≡ old.passed
  pub left : begun.left ≡ old.left
  pub outs : old.tracing ≡ true → begun.outs.items ≡ []
  pub lines : begun.lines ≡ old.lines ++ if_tracing old.tracing ins
  pub tracing : begun.tracing ≡ old.tracing

-- Those events of the step are told, and then what went out.
pub record IsTold (those : List Event) (done new : Log) : Type 0 where
  pub events : new.events ≡ done.events
  pub passed : new.passed ≡ done.passed
  pub left : new.left ≡ done.left
  pub lines : new.lines ≡ done.lines ++ if_tracing done.tracing (all_told (map Journal those) ++ done.outs.items)
  pub tracing : new.tracing ≡ done.tracing
