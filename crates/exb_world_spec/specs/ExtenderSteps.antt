-- What extenders do: a word or a frame is taken, and what is sent of it goes onto links or leaves.
use Rattle.std.specs.Prelude.{ℕ, zero, suc, ◌+◌, ◌==◌, ◌&&◌, if◌then◌else◌, List, [], ◌∷◌, Option, Some, None}
use Rattle.exb_model.specs.Tree.{Shape, device, on, is_extender, port_number}
use Rattle.exb_model.specs.declared.event.Event.TheVariants as event
use Rattle.exb_model.specs.declared.arrival.Arrival.{Arrival}
use Rattle.exb_extender.specs.declared.sends.Side.{Side}
use Rattle.exb_extender.specs.declared.sends.Side.TheVariants as side
use Rattle.exb_csp.specs.AllTables.{port_of}
use Rattle.exb_extender.specs.Forwarding.{Sent}
use Rattle.exb_extender.specs.Machine.{Input, Arrives, Reaction, react}
use Rattle.exb_link.specs.declared.link_frame.Stamp.{Stamp}
use Rattle.exb_link.specs.declared.link_frame.LinkFrame.{LinkFrame}
use Rattle.exb_world_spec.specs.Worlds.{World, Out, with_far, push_down, push_up, moment_of}
use Rattle.exb_world_spec.specs.Effects.{Effect, only, sending, leaving, each}

-- ---- who hangs where
unfoldable pub hung_below : Shape → ℕ → ℕ → Option ℕ
hung_below t p zero = None
hung_below t p (suc n) = if is_extender t n && on t n == p then Some n else hung_below t p n

-- the extender that hangs on port p
abbrev pub hung_on : Shape → ℕ → Option ℕ
hung_on t p = hung_below t p 65

-- ---- what is sent
-- it goes to the extender that hangs there, else it leaves
abbrev pub sent_at : ℕ → ℕ → Option ℕ → Option Stamp → List ℕ → World → Effect
sent_at n k (Some m) stamp bytes w = sending (Out n (side.Port k) bytes)
    (push_down m (record { bytes = bytes; stamp = stamp }) w)
sent_at n k None stamp bytes w = leaving (Out n (side.Port k) bytes)
    (record { port = port_of n k; moment = moment_of stamp; bytes = bytes }) w

abbrev pub sent_to : Shape → ℕ → Option Stamp → Side → List ℕ → World → Effect
sent_to t n stamp side.Up bytes w = sending (Out n side.Up bytes)
    (push_up n (record { bytes = bytes; stamp = stamp }) w)
sent_to t n stamp (side.Port k) bytes w = sent_at n k (hung_on t (port_of n k)) stamp bytes w

-- extender n sends
abbrev pub sends : Shape → ℕ → Option Stamp → Sent → World → Effect
sends t n stamp s w = sent_to t n stamp s.side s.bytes w

-- its reaction: copies have the stamp of the word of which they are copies
abbrev pub does : Shape → ℕ → Option Stamp → Reaction → World → Effect
does t n stamp r w = each (sends t n stamp) r.1 (with_far n r.0 w)

abbrev pub reacts : Shape → ℕ → Option Stamp → Input → World → Effect
reacts t n stamp i w = does t n stamp (react i (w.far n)) w

-- ---- words
-- extender n takes a word from upstream
abbrev pub takes_from_above : Shape → ℕ → LinkFrame → World → Effect
takes_from_above t n x w = reacts t n x.stamp (Arrives side.Up x.bytes) w

-- and one from a port, which has to be a cascade port
abbrev pub takes_from_below : Shape → ℕ → ℕ → LinkFrame → World → Effect
takes_from_below t n k x w = if (w.far n).tables.cascade k then reacts t n x.stamp (Arrives (side.Port k) x.bytes) w
    else only w

-- ---- arrivals
abbrev pub stamp_of : Arrival → Stamp
stamp_of a = record { port = a.port; index = a.index; moment = a.moment }

abbrev pub ignored : Arrival → World → Effect
ignored a w = record (only w) { events = event.Ignored a.port a.index ∷ [] }

-- a frame of which nothing is sent is ignored
abbrev pub does_or_ignores : Shape → Arrival → Reaction → World → Effect
does_or_ignores t a (s, []) w = ignored a w
does_or_ignores t a (s, x ∷ xs) w = does t (device a.port) (Some (stamp_of a)) (s, x ∷ xs) w

-- a frame arrives at an external port of an extender; one at a cascade port is ignored
abbrev pub arrives_at : Shape → Arrival → World → Effect
arrives_at t a w =
    if (w.far (device a.port)).tables.cascade (port_number a.port) then ignored a w
    else does_or_ignores t a (react (Arrives (side.Port (port_number a.port)) a.bytes) (w.far (device a.port))) w
