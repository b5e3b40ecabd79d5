-- What the bridge hears, forgets and learns.
use Rattle.std.specs.Prelude.{ℕ, ◌==◌, ◌&&◌, Bool, if◌then◌else◌, List, [], ◌∷◌, Option, None, bytes_eq, slice_index}
use Rattle.exb_model.specs.Tree.{Shape, device, trunk, is_extender}
use Rattle.exb_model.specs.Configuration.{Bridge}
use Rattle.exb_model.specs.Learning.{passes}
use Rattle.exb_model.specs.declared.arrival.Arrival.{Arrival}
use Rattle.exb_model.specs.EagerHistory.{is_relayed}
use Rattle.exb_lldp.specs.declared.announce.Announce.{Announce}
use Rattle.exb_learn.specs.Calls.{Table, Forget, after_call}
use Rattle.exb_learn.specs.Histories.{relay_call, after_any}
use Rattle.exb_control_spec.specs.Plans.HeldNumbers.{Held, channel_in}
use Rattle.exb_control_spec.specs.Decisions.{Decide}
use Rattle.exb_control_spec.specs.Machine.{State, Moved, still, heard}

-- the address of extender n: 02-45-42-01-00-n
abbrev pub address_of : ℕ → List ℕ
address_of n = 2 ∷ 69 ∷ 66 ∷ 1 ∷ 0 ∷ n ∷ []

-- the announcement has the address and the port count of extender n
abbrev pub is_of : Shape → ℕ → Announce → Bool
is_of t n a = bytes_eq a.chassis.0 (address_of n) && a.ports == slice_index t.ports n

-- such an announcement is heard, and another one changes nothing
abbrev pub announced : Decide → Shape → ℕ → Announce → State → Moved
announced decide t n a s = if is_of t n a then heard decide n s else still s

-- the channel that a port of an extender holds at its trunk
abbrev pub channel_at_trunk : Shape → Held → ℕ → Option ℕ
channel_at_trunk t h p = if is_extender t (device p) then channel_in h (trunk t (device p)) p else None

-- these ports are forgotten
abbrev pub forgotten_all : List ℕ → Table → Table
forgotten_all [] u = u
forgotten_all (p ∷ ps) u = forgotten_all ps (after_call (Forget p) u)

-- what a frame that comes to a bridge at a port teaches
abbrev pub taught_by : Bridge → ℕ → List ℕ → Table → Table
taught_by b p f u = if is_relayed b p f then after_any (relay_call p f (passes b p f)) u else u

abbrev pub taught : Bridge → Arrival → Table → Table
taught b a u = taught_by b a.port a.bytes u
