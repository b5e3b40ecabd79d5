-- Commands, with sets of ports as tests.
use Rattle.std.specs.Prelude.{ℕ, Bool, List}
use Rattle.exb_model.specs.declared.address.Mac.{Mac}
use Rattle.exb_model.specs.declared.rules.Accept.{Accept}
use Rattle.exb_model.specs.declared.vlan.Kind.{Kind}
use Rattle.exb_model.specs.declared.setup.Verdict.{Verdict}
use Rattle.exb_model.specs.declared.setup.Timed.{Timed}
use Rattle.exb_model.specs.declared.command.Command.{Command}
use Rattle.exb_model.specs.declared.command.Command.TheVariants as command
use Rattle.exb_model.specs.Ports.{port_in}

pub data Seen : Type 0 where
  set_vlan : ℕ → (ℕ → Bool) → (ℕ → Bool) → Seen
  put_member : ℕ → ℕ → Kind → Seen
  take_member : ℕ → ℕ → Seen
  set_pvid : ℕ → ℕ → Seen
  set_accept : ℕ → Accept → Seen
  set_filter : ℕ → Bool → Seen
  set_isolated : ℕ → Bool → Seen
  put_static : ℕ → Mac → (ℕ → Bool) → Seen
  take_static : ℕ → Mac → Seen
  go_up : ℕ → Seen
  go_down : ℕ → Seen

abbrev pub seen : Command → Seen
seen (command.Vlan v tagged untagged) = set_vlan v (port_in tagged) (port_in untagged)
seen (command.Member v p kind) = put_member v p kind
seen (command.Unmember v p) = take_member v p
seen (command.Pvid p v) = set_pvid p v
seen (command.Accept p types) = set_accept p types
seen (command.Filter p on) = set_filter p on
seen (command.Isolate p on) = set_isolated p on
seen (command.Static v m ports) = put_static v m (port_in ports)
seen (command.Unstatic v m) = take_static v m
seen (command.Up p) = go_up p
seen (command.Down p) = go_down p

pub record TimedSeen : Type 0 where
  pub at : ℕ
  pub command : Seen
  pub fate : List Verdict

abbrev pub timed_view : Timed → TimedSeen
timed_view c = record { at = c.at; command = seen c.command; fate = c.fate }
