-- The history of the eager run: each event in its turn, and all settled after it.
use Rattle.std.specs.Prelude.{ℕ, Bool, true, false, ◌==◌, ◌&&◌, if◌then◌else◌, List, [], ◌∷◌, Option, Some, None, fold}
use Rattle.exb_model.specs.declared.command.Command.{Command}
use Rattle.exb_model.specs.declared.command.Command.TheVariants as command
use Rattle.exb_model.specs.declared.frame_kind.Seen.{Seen}
use Rattle.exb_model.specs.declared.frame_kind.Seen.TheVariants as seen
use Rattle.exb_model.specs.declared.event.Event.{Event}
use Rattle.exb_model.specs.declared.event.Event.TheVariants as event
use Rattle.exb_model.specs.declared.event.Cause.{Cause}
use Rattle.exb_model.specs.Frames.{kind_of}
use Rattle.exb_model.specs.Tree.{Shape, opening_ports}
use Rattle.exb_model.specs.Setup.{Limits}
use Rattle.exb_model.specs.Configuration.{Bridge}
use Rattle.exb_model.specs.History.{Basis, History, command_of, bridge_after}
use Rattle.exb_model.specs.Refusals.{refusal}
use Rattle.exb_model.specs.declared.arrival.Arrival.{Arrival}
use Rattle.exb_model.specs.Input.{Input, Segment, Eager, basis_of, tree_of, bounds_of, segments}

-- ---- what comes of an arrival, a command and an automatic up
abbrev pub is_relayed_kind : Seen → Bool
is_relayed_kind seen.Short = false
is_relayed_kind seen.Long = false
is_relayed_kind seen.Reserved = false
is_relayed_kind _ = true

-- the port is present, and the frame is neither short nor long nor reserved
abbrev pub is_relayed : Bridge → ℕ → List ℕ → Bool
is_relayed b p f = b.present p && is_relayed_kind (kind_of f)

abbrev pub arrival_event : Bridge → Arrival → Event
arrival_event b a = if is_relayed b a.port a.bytes then event.Relay a.port a.index a.moment a.bytes else event.Ignored
    a.port a.index

abbrev pub decided : ℕ → Option Cause → Event
decided n None = event.Commit n
decided n (Some x) = event.Refuse n x

-- what is refused of command n, and nothing where there is none
abbrev pub refusal_of : Shape → Limits → Bridge → Option Command → Option Cause
refusal_of t l b None = None
refusal_of t l b (Some c) = refusal t l b c

abbrev pub command_event : Shape → Limits → Basis → Bridge → ℕ → Event
command_event t l i b n = decided n (refusal_of t l b (command_of i n))

abbrev pub risen : ℕ → Option Cause → Event
risen p None = event.Up p
risen p (Some x) = event.NoUp p x

abbrev pub up_event : Shape → Limits → Bridge → ℕ → Event
up_event t l b p = risen p (refusal t l b (command.Up p))

-- ---- Opening(I)
abbrev pub with_ups : Shape → Limits → Basis → History → List ℕ → History
with_ups t l i h [] = h
with_ups t l i h (p ∷ ps) = with_ups t l i (up_event t l (bridge_after i h) p ∷ h) ps

-- Up or NoUp of each external port of the extenders, by depth and number of the extender; then Settled
abbrev pub opening : Shape → Limits → Basis → History
opening t l i = event.Settled ∷ with_ups t l i [] (opening_ports t)

-- ---- Eager(I)
-- the clock goes on, if it does
abbrev pub with_tick : ℕ → History → History
with_tick seconds h = if seconds == 0 then h else event.Tick seconds ∷ h

abbrev pub with_commands : Shape → Limits → Basis → History → List ℕ → History
with_commands t l i h [] = h
with_commands t l i h (n ∷ ns) = with_commands t l i (command_event t l i (bridge_after i h) n ∷ h) ns

abbrev pub with_arrivals : Basis → History → List Arrival → History
with_arrivals i h [] = h
with_arrivals i h (a ∷ rest) = with_arrivals i (arrival_event (bridge_after i h) a ∷ h) rest

-- one segment more: its tick, its commands, its arrivals, and Settled
abbrev pub eager_segment : Shape → Limits → Basis → History → Segment → History
eager_segment t l i h s = event.Settled ∷ with_arrivals i (with_commands t l i (with_tick s.seconds h) s.commands)
    s.arrivals

-- a history and eager segments after it
abbrev pub eagerly : Shape → Limits → Basis → History → List Segment → History
eagerly t l i h ss = fold (eager_segment t l i) h ss

-- Eager(I)
unfoldable pub eager : Input → History
eager i = eagerly (tree_of i) (bounds_of i) (basis_of i) (opening (tree_of i) (bounds_of i) (basis_of i))
    (segments Eager i)
