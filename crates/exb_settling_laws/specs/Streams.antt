-- One extender's session as it lies in a world: the two ends, and the words between them in order of arrival, whatever
-- links they stand on.
use Rattle.std.specs.Prelude.{ℕ, zero, suc, ◌==◌, ◌&&◌, nat_lt, is_some, Bool, true, false, if◌then◌else◌, List, [], ◌∷◌, ◌++◌, drop, Option, Some, None, Result, Ok, Err}
use Rattle.exb_model.specs.Tree.{Shape, device, on, trunk}
use Rattle.exb_model.specs.ETags.{Tag, read_etag, stripped}
use Rattle.exb_lldp.specs.declared.announce.Announce.{Announce}
use Rattle.exb_lldp.specs.declared.announce.LldpFault.{LldpFault}
use Rattle.exb_lldp.specs.Announcements.{announced as announcement_in}
use Rattle.exb_ecp.specs.declared.pdu.Pdu.{Pdu}
use Rattle.exb_ecp.specs.declared.pdu.EcpFault.{EcpFault}
use Rattle.exb_ecp.specs.Frames.{pdu_in}
use Rattle.exb_ecp.specs.StopAndWait.{Sending as Sends, State as Ecp}
use Rattle.exb_csp.specs.declared.fault.CspFault.{CspFault}
use Rattle.exb_csp.specs.declared.message.Body.{Body}
use Rattle.exb_csp.specs.declared.message.Body.TheVariants as body
use Rattle.exb_csp.specs.declared.message.Message.{Message}
use Rattle.exb_csp.specs.Decoding.{read_message}
use Rattle.exb_extender.specs.Forwarding.{has_etag_type}
use Rattle.exb_link.specs.declared.link_frame.LinkFrame.{LinkFrame}
use Rattle.exb_link.specs.LinkFrames.{is_control}
use Rattle.exb_control_spec.specs.Plans.HeldNumbers.{Held}
use Rattle.exb_world_spec.specs.Worlds.{World}
use Rattle.exb_world_spec.specs.DataFrames.{hung_at}
use Rattle.exb_settling_laws.specs.StopAndWait.{Message as Note, Request, Answer, Ack, Hello, Sending, End}
use Rattle.exb_settling_laws.specs.SessionPair.{Near, Far, Pair}

-- ---- what a frame reads as
abbrev pub serial_of : Result Message CspFault → ℕ
serial_of (Ok m) = m.serial
serial_of (Err fault) = 0

abbrev pub body_note : ℕ → ℕ → Body → Note
body_note sequence serial (body.Ask request) = Request sequence serial
body_note sequence serial (body.Answer response) = Answer sequence serial

abbrev pub message_note : ℕ → Result Message CspFault → Option Note
message_note sequence (Ok m) = Some (body_note sequence m.serial m.body)
message_note sequence (Err fault) = None

abbrev pub pdu_note : Result Pdu EcpFault → List ℕ → Option Note
pdu_note (Err fault) f = None
pdu_note (Ok pdu) f =
    if pdu.subtype == 2
    then (if pdu.acknowledgement then Some (Ack pdu.sequence) else message_note pdu.sequence (read_message (drop 18 f)))
    else None

abbrev pub frame_note : Result Announce LldpFault → List ℕ → Option Note
frame_note (Ok a) f = Some Hello
frame_note (Err fault) f = pdu_note (pdu_in f) f

-- a control frame without an E-TAG
unfoldable pub note_of : List ℕ → Option Note
note_of f = frame_note (announcement_in f) f

-- ---- the ends
abbrev pub sending_of : Option Sends → Option Sending
sending_of None = None
sending_of (Some x) = Some (record {
  sequence = x.sequence;
  serial = serial_of (read_message x.payload);
  beats = x.beats;
})

abbrev pub end_of : Ecp → End
end_of e = record { next = e.next; sending = sending_of e.sending; got = e.received }

-- ---- whose a word is
abbrev pub holder_in : Held → ℕ → Option Tag → Option ℕ
holder_in h k None = None
holder_in h k (Some tag) = h.port k tag.ecid

-- the extender for which, or from which, a control frame is on the link of extender m: m itself, or the one that hangs
-- on the port of the channel in its E-TAG
unfoldable pub addressee : Shape → Held → ℕ → List ℕ → Option ℕ
addressee t h m f = if has_etag_type f then hung_at t (holder_in h (trunk t m) (read_etag f)) else Some m

unfoldable pub plain : List ℕ → List ℕ
plain f = if has_etag_type f then stripped f else f

abbrev pub is_the : ℕ → Option ℕ → Bool
is_the n None = false
is_the n (Some m) = m == n

abbrev pub is_of : Shape → Held → ℕ → ℕ → LinkFrame → Bool
is_of t h n m x = is_control x && is_the n (addressee t h m x.bytes)

-- ---- streams
abbrev pub notes_if : Bool → Option Note → List Note
notes_if true (Some x) = x ∷ []
notes_if true None = []
notes_if false o = []

-- the words of extender n on the link of extender m
abbrev pub words_of : Shape → Held → ℕ → ℕ → List LinkFrame → List Note
words_of t h n m [] = []
words_of t h n m (x ∷ xs) = notes_if (is_of t h n m x) (note_of (plain x.bytes)) ++ words_of t h n m xs

-- On the way up from extender m, at most d links: those nearest the bridge come first.
unfoldable pub ups_of : Shape → Held → (ℕ → List LinkFrame) → ℕ → ℕ → ℕ → List Note
ups_of t h up n zero m = []
ups_of t h up n (suc d) m = (if nat_lt (on t m) 64 then [] else ups_of t h up n d (device (on t m)))
    ++ words_of t h n m (up m)

-- On the way down to extender m: those nearest m come first.
unfoldable pub downs_of : Shape → Held → (ℕ → List LinkFrame) → ℕ → ℕ → ℕ → List Note
downs_of t h down n zero m = []
downs_of t h down n (suc d) m = words_of t h n m (down m)
    ++ (if nat_lt (on t m) 64 then [] else downs_of t h down n d (device (on t m)))

abbrev pub near_at : Shape → World → ℕ → Near
near_at t w n =
    record {
      link = end_of (w.near n);
      waits = is_some (w.control.askers n).waiting;
      serial = (w.control.askers n).serial;
      beats = (w.control.askers n).beats;
      sent = downs_of t w.control.held w.down n 64 n;
    }

abbrev pub far_at : Shape → World → ℕ → Far
far_at t w n =
    record {
      link = end_of (w.far n).ecp;
      last = (w.far n).session.last;
      count = (w.far n).beats;
      sent = ups_of t w.control.held w.up n 64 n;
    }

-- one extender's session in the world
abbrev pub pair_at : Shape → World → ℕ → Pair
pair_at t w n = record { near = near_at t w n; far = far_at t w n }
