-- What the bridge does with control frames: what it sends to extenders, and what it hears from them.
use Rattle.std.specs.Prelude.{ℕ, ◌+◌, ◌==◌, nat_lt, Bool, true, false, if◌then◌else◌, List, [], ◌∷◌, drop, Option, Some, None, Result, Ok, Err}
use Rattle.exb_model.specs.declared.address.Mac.{Mac}
use Rattle.exb_model.specs.Tree.{Shape, on, trunk}
use Rattle.exb_model.specs.Setup.{Limits}
use Rattle.exb_model.specs.ETags.{tagged}
use Rattle.exb_lldp.specs.declared.announce.Announce.{Announce}
use Rattle.exb_lldp.specs.declared.announce.LldpFault.{LldpFault}
use Rattle.exb_lldp.specs.Announcements.{announced as announcement_in}
use Rattle.exb_ecp.specs.declared.pdu.Pdu.{Pdu}
use Rattle.exb_ecp.specs.declared.pdu.EcpFault.{EcpFault}
use Rattle.exb_ecp.specs.declared.stop_and_wait.Beat.{Beat as Due}
use Rattle.exb_ecp.specs.declared.stop_and_wait.Beat.TheVariants.{SendAgain}
use Rattle.exb_ecp.specs.Frames.{pdu_in, spelling}
use Rattle.exb_ecp.specs.StopAndWait.{Sending, submitted, stopped, acknowledged, is_fresh, beaten, beat_of}
use Rattle.exb_ecp.specs.StopAndWait.{heard as received}
use Rattle.exb_csp.specs.declared.fault.CspFault.{CspFault}
use Rattle.exb_csp.specs.declared.message.Message.{Message}
use Rattle.exb_csp.specs.Decoding.{read_message}
use Rattle.exb_csp.specs.Encoding.{message_bytes}
use Rattle.exb_csp.specs.declared.session.asker.Taken.{Taken}
use Rattle.exb_csp.specs.declared.session.asker.Taken.TheVariants as taken
use Rattle.exb_csp.specs.Sessions.AskingEnd.{took}
use Rattle.exb_extender.specs.Forwarding.{channel_tag}
use Rattle.exb_extender.specs.Machine.{control_pdu}
use Rattle.exb_control_spec.specs.declared.extender_message.Asked.{Asked}
use Rattle.exb_control_spec.specs.Decisions.{decide}
use Rattle.exb_control_spec.specs.Machine.{Moved, answered, beats}
use Rattle.exb_world_spec.specs.Worlds.{World, BridgeOut, with_control, with_table, with_near, push_down, control_word}
use Rattle.exb_world_spec.specs.Effects.{Effect, only, sending, then_do, each}
use Rattle.exb_world_spec.specs.ExtenderSteps.{hung_on}
use Rattle.exb_world_spec.specs.BridgeLearning.{announced, channel_at_trunk, forgotten_all}

-- ---- what the bridge sends to an extender
-- the address 02-45-42-00-00-00
abbrev pub bridge_address : Mac
bridge_address = record { 0 = 2 ∷ 69 ∷ 66 ∷ 0 ∷ 0 ∷ 0 ∷ [] }

abbrev pub bridge_request : ℕ → List ℕ → List ℕ
bridge_request sequence payload = spelling bridge_address (control_pdu false sequence) payload

abbrev pub bridge_acknowledgement : ℕ → List ℕ
bridge_acknowledgement sequence = spelling bridge_address (control_pdu true sequence) []

-- the bridge puts a control frame on the link of extender m, which hangs on its port k, counted from 0
abbrev pub puts : ℕ → ℕ → List ℕ → World → Effect
puts k m f w = sending (BridgeOut (k + 1) f) (push_down m (control_word f) w)

-- with the channel of the port on which the extender hangs for which it is
abbrev pub puts_tagged : ℕ → Option ℕ → Option ℕ → List ℕ → World → Effect
puts_tagged k (Some m) (Some channel) f w = puts k m (tagged f (channel_tag channel)) w
puts_tagged k (Some m) None f w = only w
puts_tagged k None channel f w = only w

-- A control frame goes to extender n: as it is where that hangs on the bridge, else with an E-TAG by way of the
-- extender on the bridge port above it.
abbrev pub to_extender : Shape → ℕ → List ℕ → World → Effect
to_extender t n f w =
    if nat_lt (on t n) 64 then puts (on t n) n f w
    else puts_tagged (trunk t n) (hung_on t (trunk t n)) (channel_at_trunk t w.control.held (on t n)) f w

-- a message is submitted, in place of what is sent, and goes out
abbrev pub submits : Shape → ℕ → List ℕ → World → Effect
submits t n payload w =
    to_extender t n (bridge_request (w.near n).next payload) (with_near n (submitted payload (stopped (w.near n))) w)

abbrev pub asks : Shape → Asked → World → Effect
asks t a w = submits t a.extender (message_bytes a.message) w

-- a step of the machine of changes
abbrev pub moves : Shape → Moved → World → Effect
moves t m w =
    then_do (record (only (with_table (forgotten_all m.downs w.table) (with_control m.state w))) { events = m.events })
    (each (asks t) m.asks)

-- ---- what the bridge hears from extender n
-- an answer that is taken ends the sending of its request
abbrev pub stops : Taken → ℕ → World → World
stops (taken.Answer response) n w = with_near n (stopped (w.near n)) w
stops taken.Stale n w = w
stops taken.NotOurs n w = w

abbrev pub hears_message : Shape → Limits → ℕ → Result Message CspFault → World → Effect
hears_message t l n (Err fault) w = only w
hears_message t l n (Ok m) w = moves t (answered (decide t l) n m w.control) (stops (took (w.control.askers n) m).1 n w)

abbrev pub hears_fresh : Shape → Limits → ℕ → Bool → ℕ → List ℕ → World → Effect
hears_fresh t l n true sequence payload w = hears_message t l n (read_message payload)
    (with_near n (received sequence (w.near n)) w)
hears_fresh t l n false sequence payload w = only w

-- it is acknowledged first; where its sequence differs from the last received the payload is taken
abbrev pub hears_request : Shape → Limits → ℕ → ℕ → List ℕ → World → Effect
hears_request t l n sequence payload w =
    then_do (to_extender t n (bridge_acknowledgement sequence) w)
    (λ v. hears_fresh t l n (is_fresh sequence (v.near n)) sequence payload v)

abbrev pub hears_pdu : Shape → Limits → ℕ → Result Pdu EcpFault → List ℕ → World → Effect
hears_pdu t l n (Err fault) f w = only w
hears_pdu t l n (Ok pdu) f w =
    if pdu.subtype == 2
    then (if pdu.acknowledgement then only (with_near n (acknowledged pdu.sequence (w.near n)) w) else hears_request t l
    n pdu.sequence (drop 18 f) w)
    else only w

abbrev pub hears_frame : Shape → Limits → ℕ → Result Announce LldpFault → List ℕ → World → Effect
hears_frame t l n (Ok a) f w = moves t (announced (decide t l) t n a w.control) w
hears_frame t l n (Err fault) f w = hears_pdu t l n (pdu_in f) f w

-- a control frame of extender n, without an E-TAG
unfoldable pub hears : Shape → Limits → ℕ → List ℕ → World → Effect
hears t l n f w = hears_frame t l n (announcement_in f) f w

-- ---- beats
-- the bridge's end with extender n sends again
abbrev pub sends_again : Shape → ℕ → Due → Option Sending → World → Effect
sends_again t n SendAgain (Some x) w = to_extender t n (bridge_request x.sequence x.payload) w
sends_again t n _ _ w = only w

abbrev pub beats_near : Shape → ℕ → World → Effect
beats_near t n w = sends_again t n (beat_of (w.near n).sending) (w.near n).sending (with_near n (beaten (w.near n)) w)

-- then the session counts the beat, and asks again at its sixteenth
abbrev pub beats_control : Shape → World → Effect
beats_control t w = moves t (beats w.control) w
