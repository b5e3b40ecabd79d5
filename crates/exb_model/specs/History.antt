-- Histories: what happened, and what it leaves of configuration and clock.
use Rattle.std.specs.Prelude.{ℕ, ◌+◌, List, [], ◌∷◌, Option, Some, None}
use Rattle.exb_model.specs.declared.command.Command.{Command}
use Rattle.exb_model.specs.declared.command.Command.TheVariants as command
use Rattle.exb_model.specs.declared.event.Event.{Event}
use Rattle.exb_model.specs.declared.event.Event.TheVariants as event
use Rattle.exb_model.specs.Lists.{numbered}
use Rattle.exb_model.specs.Configuration.{Bridge, after}

-- what a history is of: the configuration to start with, the commands in order, and the ageing time in
-- seconds
pub record Basis : Type 0 where
  pub start : Bridge
  pub commands : List Command
  pub ageing : ℕ

-- H: events, the newest first, so that what follows an event is the history before it
abbrev pub History : Type 0
History = List Event

-- a history and the events after it, the oldest first
infixl 5 ◌then◌
abbrev pub ◌then◌ : History → List Event → History
h then [] = h
h then (e ∷ es) = (e ∷ h) then es

-- command n, if there is one; none has number 0
abbrev pub command_of : Basis → ℕ → Option Command
command_of i n = numbered i.commands n

abbrev pub after_any : Option Command → Bridge → Bridge
after_any None b = b
after_any (Some c) b = after c b

-- what an event makes of the configuration
abbrev pub changed : Basis → Event → Bridge → Bridge
changed i (event.Commit n) b = after_any (command_of i n) b
changed i (event.Up p) b = after (command.Up p) b
changed i _ b = b

-- K(H)
unfoldable pub bridge_after : Basis → History → Bridge
bridge_after i [] = i.start
bridge_after i (e ∷ h) = changed i e (bridge_after i h)

abbrev pub seconds_of : Event → ℕ
seconds_of (event.Tick seconds) = seconds
seconds_of _ = 0

-- Now(H)
unfoldable pub now_after : History → ℕ
now_after [] = 0
now_after (e ∷ h) = now_after h + seconds_of e
