-- A port extender as a pure machine: its state, what befalls it, and what it then sends.
use Rattle.std.specs.Prelude.{◌≡◌, ◌⊎◌, ℕ, ◌+◌, ◌<◌, ◌≤◌, ◌==◌, ◌&&◌, ◌||◌, Bool, true, false, not, if◌then◌else◌, List, [], ◌∷◌, ◌++◌, drop, Option, Some, None, Result, Ok, Err, IfSome, ⊤}
use Rattle.exb_model.specs.declared.address.Mac.{Mac}
use Rattle.exb_lldp.specs.Encoding.{spelling as announcement}
use Rattle.exb_ecp.specs.declared.pdu.Pdu.{Pdu}
use Rattle.exb_ecp.specs.declared.pdu.EcpFault.{EcpFault}
use Rattle.exb_ecp.specs.declared.stop_and_wait.Beat.{Beat as Due}
use Rattle.exb_ecp.specs.declared.stop_and_wait.Beat.TheVariants.{SendAgain}
use Rattle.exb_ecp.specs.Frames.{pdu_in, spelling}
use Rattle.exb_ecp.specs.StopAndWait.{Sending, State, new_state, submitted, acknowledged, heard, is_fresh, beaten, beat_of, IsSound}
use Rattle.exb_csp.specs.declared.fault.CspFault.{CspFault}
use Rattle.exb_csp.specs.declared.message.Body.{Body}
use Rattle.exb_csp.specs.declared.message.Body.TheVariants.{Ask, Answer}
use Rattle.exb_csp.specs.declared.message.Message.{Message}
use Rattle.exb_csp.specs.declared.message.Request.{Request}
use Rattle.exb_csp.specs.declared.message.Request.TheVariants.{Open}
use Rattle.exb_csp.specs.Decoding.{read_message}
use Rattle.exb_csp.specs.Encoding.{message_bytes, HasSpelling}
use Rattle.exb_csp.specs.Execution.{ExtenderTables, executed, response_to}
use Rattle.exb_csp.specs.PortMasks.{powered_on}
use Rattle.exb_csp.specs.declared.session.answerer.Due.{Due as Turn}
use Rattle.exb_csp.specs.declared.session.answerer.Due.TheVariants.{Execute, Again, Ignore}
use Rattle.exb_csp.specs.Sessions.AnsweringEnd.{AnswererState, fresh, is_owing, arrived, stored, stored_message}
use Rattle.exb_extender.specs.declared.sends.Side.{Side}
use Rattle.exb_extender.specs.declared.sends.Side.TheVariants.{Up, Port}
use Rattle.exb_extender.specs.Forwarding.{Sent, up, is_bare_control, emitted}

pub record ExtenderState : Type 0 where
  -- the extender's number, which its address has
  pub number : ℕ
  pub tables : ExtenderTables
  -- the last serial, 0 before the first, with its stored answer
  pub session : AnswererState
  -- the last received sequence, what is sent, and the next sequence
  pub ecp : State
  -- the count of beats modulo 16
  pub beats : ℕ
  -- whether Open was executed
  pub opened : Bool

abbrev pub at_power_on : ℕ → ℕ → ExtenderState
at_power_on number ports = record {
  number = number;
  tables = powered_on ports;
  session = fresh;
  ecp = new_state;
  beats = 0;
  opened = false;
}

-- the state, and what is sent, in order
abbrev pub Reaction : Type 0
Reaction = ExtenderState × List Sent

-- nothing changes, and nothing is sent
abbrev pub nothing : ExtenderState → Reaction
nothing s = (s, [])

-- ---- the extender's own frames

-- the address 02-45-42-01-00-n of extender n
abbrev pub address_of : ℕ → Mac
address_of number = record { 0 = 2 ∷ 69 ∷ 66 ∷ 1 ∷ 0 ∷ number ∷ [] }

-- the subtype of control messages is 2
abbrev pub control_pdu : Bool → ℕ → Pdu
control_pdu acknowledgement sequence = record {
  acknowledgement = acknowledgement;
  subtype = 2;
  sequence = sequence;
  payload_at = 18;
}

abbrev pub acknowledgement_frame : ℕ → ℕ → List ℕ
acknowledgement_frame number sequence = spelling (address_of number) (control_pdu true sequence) []

abbrev pub request_frame : ℕ → ℕ → List ℕ → List ℕ
request_frame number sequence payload = spelling (address_of number) (control_pdu false sequence) payload

abbrev pub announcement_frame : ℕ → ℕ → List ℕ
announcement_frame number ports = announcement (record { chassis = address_of number; ports = ports })

-- ---- a request

-- a message is submitted, in place of what is sent, and goes up
abbrev pub submits : Option Message → ExtenderState → Reaction
submits None s = nothing s
submits (Some m) s = (
  record s { ecp = submitted (message_bytes m) s.ecp },
  up (request_frame s.number s.ecp.next (message_bytes m)) ∷ [],
)

-- the stored answer is submitted, and goes up
abbrev pub answers : ExtenderState → Reaction
answers s = submits (stored_message s.session) s

abbrev pub is_open : Request → Bool
is_open Open = true
is_open _ = false

-- the tables are those after the request, and the response is stored
abbrev pub executes : AnswererState → Request → ExtenderState → ExtenderState
executes session asked s = record s {
  tables = executed s.tables asked;
  session = stored session (response_to s.tables asked);
  opened = s.opened || is_open asked;
}

abbrev pub by_turn : AnswererState → Turn → ExtenderState → Reaction
by_turn session (Execute asked) s = answers (executes session asked s)
by_turn session Again s = answers s
by_turn session Ignore s = nothing s

-- A request comes with its serial: the next one is executed, and its answer stored and sent; the last one is
-- answered again; any other changes nothing.
abbrev pub takes_request : ℕ → Request → ExtenderState → Reaction
takes_request serial asked s = by_turn (arrived s.session serial asked).0 (arrived s.session serial asked).1 s

abbrev pub takes_body : ℕ → Body → ExtenderState → Reaction
takes_body serial (Ask asked) s = takes_request serial asked s
takes_body serial (Answer response) s = nothing s

abbrev pub takes_message : Result Message CspFault → ExtenderState → Reaction
takes_message (Ok m) s = takes_body m.serial m.body s
takes_message (Err fault) s = nothing s

-- ---- control frames

-- something goes up before what comes of the state
abbrev pub after_sending : List ℕ → Reaction → Reaction
after_sending bytes r = (r.0, up bytes ∷ r.1)

-- A request of ECP is acknowledged. Where its sequence differs from the last received it becomes that, and the
-- payload is taken.
abbrev pub hears_request : ℕ → List ℕ → ExtenderState → Reaction
hears_request sequence payload s =
    after_sending (acknowledgement_frame s.number sequence)
    (if is_fresh sequence s.ecp then takes_message (read_message payload) (record s { ecp = heard sequence s.ecp })
    else nothing s)

abbrev pub hears_pdu : Result Pdu EcpFault → List ℕ → ExtenderState → Reaction
hears_pdu (Err fault) f s = nothing s
hears_pdu (Ok pdu) f s =
    if pdu.subtype == 2
    then (if pdu.acknowledgement then nothing (record s { ecp = acknowledged pdu.sequence s.ecp }) else hears_request
    pdu.sequence (drop 18 f) s)
    else nothing s

-- a control frame without an E-TAG comes from upstream
unfoldable pub hears : List ℕ → ExtenderState → Reaction
hears f s = hears_pdu (pdu_in f) f s

-- ---- beats

-- after 15 comes 0
abbrev pub next_count : ℕ → ℕ
next_count beats = if beats == 15 then 0 else beats + 1

-- until Open is executed the announcement goes up at the first beat and each sixteenth after
abbrev pub announces : ℕ → ExtenderState → List Sent
announces count s = if not s.opened && (count == 1) then up (announcement_frame s.number s.tables.ports) ∷ [] else []

abbrev pub sends_again : Due → ℕ → Option Sending → List Sent
sends_again SendAgain number (Some x) = up (request_frame number x.sequence x.payload) ∷ []
sends_again _ number _ = []

-- a beat passes
unfoldable pub beats : ExtenderState → Reaction
beats s = (
  record s { ecp = beaten s.ecp; beats = next_count s.beats },
  announces (next_count s.beats) s ++ sends_again (beat_of s.ecp.sending) s.number s.ecp.sending,
)

-- ---- what befalls an extender

pub data Input : Type 0 where
  Arrives : Side → List ℕ → Input
  Beats : Input

-- a control frame without an E-TAG from upstream is for the extender itself; any other frame is forwarded
abbrev pub comes : Side → List ℕ → ExtenderState → Reaction
comes Up f s = if is_bare_control f then hears f s else (s, emitted s.tables Up f)
comes (Port k) f s = (s, emitted s.tables (Port k) f)

abbrev pub react : Input → ExtenderState → Reaction
react (Arrives side f) s = comes side f s
react Beats s = beats s

-- ---- what calls are given, and what holds of each state

-- the number of a port
abbrev pub IsPort : ExtenderState → ℕ → Type 0
IsPort s port = (0 < port) × (port ≤ s.tables.ports)

-- a frame comes from upstream, or from a port that is a cascade port or has no channel
abbrev pub CanTake : ExtenderState → Side → Type 0
CanTake s Up = ⊤
CanTake s (Port port) = IsPort s port × ((s.tables.cascade port ≡ true) ⊎ (s.tables.own port ≡ 0))

-- the extender has its number and its ports as before
pub record IsSameDevice (old new : ExtenderState) : Type 0 where
  pub number : new.number ≡ old.number
  pub ports : new.tables.ports ≡ old.tables.ports

pub record IsExtender (s : ExtenderState) : Type 0 where
  pub numbered : (1 ≤ s.number) × (s.number ≤ 64)
  pub ports : (1 ≤ s.tables.ports) × (s.tables.ports ≤ 64)
  pub outside : (port : ℕ) → s.tables.ports < port → s.tables.own port ≡ 0
  pub channels : (port : ℕ) → s.tables.own port < 4095
  pub answered : is_owing s.session ≡ false
  pub spelled : IfSome (stored_message s.session) HasSpelling
  pub ecp : IsSound s.ecp
  pub beats : s.beats < 16
