-- The calls by which a bridge keeps the table over a history.
use Rattle.std.specs.Prelude.{ℕ, if◌then◌else◌, List, [], ◌∷◌, Option, Some, None}
use Rattle.exb_model.specs.declared.command.Command.{Command}
use Rattle.exb_model.specs.declared.command.Command.TheVariants as command
use Rattle.exb_model.specs.declared.event.Event.{Event}
use Rattle.exb_model.specs.declared.event.Event.TheVariants as event
use Rattle.exb_model.specs.Frames.{source, is_group}
use Rattle.exb_model.specs.History.{Basis, History, command_of, bridge_after}
use Rattle.exb_model.specs.Learning.{passes}
use Rattle.exb_learn.specs.Calls.{Call, See, Tick, Forget, Table, empty_table, after_call}

-- for a frame that came at port p and passes in this VLAN: its source is seen, if it is an individual address
abbrev pub relay_call : ℕ → List ℕ → Option ℕ → Option Call
relay_call p f None = None
relay_call p f (Some v) = if is_group (source f) then None else Some (See v (source f) p)

-- for a command that is done: a port that goes down is forgotten
abbrev pub command_call : Option Command → Option Call
command_call (Some (command.Down p)) = Some (Forget p)
command_call _ = None

-- for an event after history h
abbrev pub call_at : Basis → History → Event → Option Call
call_at i h (event.Relay p n t f) = relay_call p f (passes (bridge_after i h) p f)
call_at i h (event.Tick seconds) = Some (Tick seconds)
call_at i h (event.Commit n) = command_call (command_of i n)
call_at i h _ = None

abbrev pub after_any : Option Call → Table → Table
after_any None t = t
after_any (Some c) t = after_call c t

-- the table after a history
unfoldable pub table_after : Basis → History → Table
table_after i [] = empty_table i.ageing
table_after i (e ∷ h) = after_any (call_at i h e) (table_after i h)
