-- What a call leaves in the outbox, and what it changes.
use Rattle.std.specs.Prelude.{◌≡◌, []}
use Rattle.exb_control_spec.specs.Machine.{Moved}
use Rattle.exb_control.specs.declared.outbox.Outbox.{Outbox}
use Rattle.exb_control.specs.Controls.{Parts, state_of}

-- The machine made this step: the state is its state, and the outbox has its events and messages, and the ports that
-- commands made go down. Nothing else has changed.
pub record IsMoved (m : Moved) (old new : Parts) (out : Outbox) : Type 0 where
  pub state : state_of new ≡ m.state
  pub events : out.events ≡ m.events
  pub asks : out.asks ≡ m.asks
  pub downs : out.downs ≡ m.downs
  pub shape : new.active.shape ≡ old.active.shape
  pub limits : new.active.limits ≡ old.active.limits
  pub failed : new.failed ≡ old.failed

-- The control had failed before the call: nothing has changed, and nothing is in the outbox.
pub record IsStill (old new : Parts) (out : Outbox) : Type 0 where
  pub same : new ≡ old
  pub events : out.events ≡ []
  pub asks : out.asks ≡ []
  pub downs : out.downs ≡ []
