-- What the bound on settling needs of each reachable world, by name.
use Rattle.std.specs.Prelude.{◌≡◌, ◌≢◌, ◌⊎◌, ℕ, zero, suc, ◌<◌, ◌≤◌, ◌==◌, nat_lt, Bool, true, false, List, [], ◌∷◌, length, drop, Option, Some, None, Ok, ⊤}
use Rattle.exb_model.specs.Tree.{Shape, device, on, trunk, is_extender, port_number}
use Rattle.exb_model.specs.Setup.{Limits}
use Rattle.exb_lldp.specs.declared.announce.Announce.{Announce}
use Rattle.exb_lldp.specs.Announcements.{announced as announcement_in}
use Rattle.exb_world_spec.specs.BridgeLearning.{is_of as is_announced}
use Rattle.exb_csp.specs.Decoding.{read_message}
use Rattle.exb_model.specs.Frames.{IsBytes}
use Rattle.exb_csp.specs.declared.message.Body.TheVariants as body
use Rattle.exb_csp.specs.declared.message.Message.{Message}
use Rattle.exb_csp.specs.declared.message.Request.{Request}
use Rattle.exb_csp.specs.declared.message.Response.{Response}
use Rattle.exb_csp.specs.RequestKinds.{kind_of, same_kind}
use Rattle.exb_ecp.specs.declared.pdu.Pdu.{Pdu}
use Rattle.exb_ecp.specs.Frames.{pdu_in}
use Rattle.exb_ecp.specs.StopAndWait.{Sending, after, State as Ecp}
use Rattle.exb_extender.specs.Forwarding.{is_bare_control, has_etag_type}
use Rattle.exb_extender.specs.Machine.{ExtenderState, IsExtender}
use Rattle.exb_link.specs.declared.link_frame.LinkFrame.{LinkFrame}
use Rattle.exb_link.specs.LinkFrames.{is_control}
use Rattle.exb_control_spec.specs.Plans.HeldNumbers.{Held, channel_in}
use Rattle.exb_csp.specs.Sessions.AskingEnd.{AskerState}
use Rattle.exb_control_spec.specs.declared.job.Job.{Job}
use Rattle.exb_control_spec.specs.declared.job.Job.TheVariants as job
use Rattle.exb_control_spec.specs.Machine.{State, Work}
use Rattle.exb_control_spec.specs.Runs.MachineInvariant.{OneWaits}
use Rattle.exb_world_spec.specs.Worlds.{World, Way, Step, Carry, Control, Lose, Beat}
use Rattle.exb_world_spec.specs.AllowedSteps.{Can}
use Rattle.exb_world_spec.specs.Runs.Sessions.{Each, IsTagged, Routes}
use Rattle.exb_world_spec.specs.Steps.{stepped}
use Rattle.exb_settling_laws.specs.StopAndWait.{Message as Note, Request as Asks, Answer as Answers, Ack, Hello}
use Rattle.exb_settling_laws.specs.SessionMessages.{IsTold}
use Rattle.exb_settling_laws.specs.Streams.{serial_of, message_note, addressee, plain, note_of}

-- ---- the two ends of extender n's session
-- what an end sends has the sequence before its next one, reads as a message of this serial, and isn't given up
pub record IsLatest (make : ℕ → ℕ → Note) (e : Ecp) (serial : ℕ) (x : Sending) : Type 0 where
  pub sequence : after x.sequence ≡ e.next
  pub serial_is : serial_of (read_message x.payload) ≡ serial
  pub reads : message_note x.sequence (read_message x.payload) ≡ Some (make x.sequence serial)
  pub short : length x.payload ≤ 1024
  pub beats : x.beats < 12

pub record NearFacts (e : Ecp) (a : AskerState) : Type 0 where
  -- `next` comes after some sequence
  pub before : (q : ℕ) × (after q ≡ e.next)
  pub sending : (x : Sending) → e.sending ≡ Some x → IsLatest Asks e a.serial x
  pub beats : a.beats < 16
  -- its beats and those of its session are counted from one moment
  pub even : (x : Sending) → e.sending ≡ Some x → x.beats ≡ a.beats
  -- it sends only while its request waits
  pub quiet : a.waiting ≡ None → e.sending ≡ None

pub record FarFacts (x : ExtenderState) : Type 0 where
  pub extender : IsExtender x
  pub before : (y : ℕ) × (after y ≡ x.ecp.next)
  pub sending : (z : Sending) → x.ecp.sending ≡ Some z → IsLatest Answers x.ecp x.session.last z
  -- Open is the first request
  pub opened : x.opened ≡ nat_lt 0 x.session.last

-- the serial asked last and the one executed last
abbrev pub Related : Option Request → ℕ → ℕ → Type 0
Related (Some request) serial last = IsTold serial last
Related None serial last = serial ≡ last

-- ---- words
-- a request on its way was asked, and an answer executed
abbrev pub MayGoDown : AskerState → Option Note → Type 0
MayGoDown a (Some (Asks sequence serial)) = serial ≤ a.serial
MayGoDown a (Some (Ack sequence)) = ⊤
MayGoDown a _ = ⊥

abbrev pub MayComeUp : ExtenderState → Option Note → Type 0
MayComeUp x (Some (Answers sequence serial)) = serial ≤ x.session.last
MayComeUp x (Some (Ack sequence)) = ⊤
MayComeUp x (Some Hello) = ⊤
MayComeUp x _ = ⊥

-- an answer to the request that waits is of its kind
pub record IsOfKind (a : AskerState) (f : List ℕ) : Type 0 where
  pub kind : (p : Pdu) (m : Message) (request : Request) (response : Response) → pdu_in f ≡ Ok p
      → p.acknowledgement ≡ false → read_message (drop 18 f) ≡ Ok m → m.body ≡ body.Answer response
      → a.waiting ≡ Some request → m.serial ≡ a.serial →
      same_kind response.to (kind_of request) ≡ true

-- what goes down to extender n, and what comes up from it
abbrev pub GoesDown : State → ℕ → List ℕ → Type 0
GoesDown s n f = MayGoDown (s.askers n) (note_of f)

-- an announcement is that of the extender from which it comes
pub record IsAnnouncement (t : Shape) (n : ℕ) (f : List ℕ) : Type 0 where
  pub announces : (a : Announce) → announcement_in f ≡ Ok a → is_announced t n a ≡ true

abbrev pub ComesUp : Shape → State → (ℕ → ExtenderState) → ℕ → List ℕ → Type 0
ComesUp t s far n f = MayComeUp (far n) (note_of f) × IsOfKind (s.askers n) f × IsAnnouncement t n f

-- on the way from extender k up to the bridge, at most d links, stands that of extender m
abbrev pub IsAbove : Shape → ℕ → ℕ → ℕ → Type 0
IsAbove t zero m k = ⊥
IsAbove t (suc d) m k = (m ≡ k) ⊎ ((64 ≤ on t k) × IsAbove t d m (device (on t k)))

-- A control word on the link of extender m is of m or of some extender below it, and reads as such a one.
pub record IsOwned (t : Shape) (h : Held) (P : ℕ → List ℕ → Type 0) (m : ℕ) (x : LinkFrame) : Type 0 where
  pub of : ℕ
  pub there : is_extender t of ≡ true
  pub below : IsAbove t 64 m of
  pub addressed : addressee t h m x.bytes ≡ Some of
  pub bare : is_bare_control (plain x.bytes) ≡ true
  -- as it is on its own link, and on those above with the channel of the port on which its extender hangs
  pub form : ((m ≡ of) × (has_etag_type x.bytes ≡ false)) ⊎ ((m ≢ of) × IsTagged t h m x.bytes of (plain x.bytes))
  pub reads : P of (plain x.bytes)

-- a data word is bytes, so that its destination isn't that of control frames
pub record WordFacts (t : Shape) (h : Held) (P : ℕ → List ℕ → Type 0) (m : ℕ) (x : LinkFrame) : Type 0 where
  pub bytes : IsBytes x.bytes
  pub owned : is_control x ≡ true → IsOwned t h P m x

-- ---- ways
-- The tables of extender a send a frame with this channel on at port p alone, a cascade port, and there without its
-- E-TAG exactly where it is the last one.
pub record Hops (a : ExtenderState) (p channel : ℕ) (last : Bool) : Type 0 where
  pub some : 0 < p
  pub port : p ≤ a.tables.ports
  pub cascade : a.tables.cascade p ≡ true
  pub own : 0 < a.tables.own p
  pub pairs : (q : ℕ) → a.tables.pair channel q ≡ (q == p)
  pub ends : (a.tables.own p == channel) ≡ last

-- so does each extender above m, at most d of them
abbrev pub HopsAbove : Shape → (ℕ → ExtenderState) → ℕ → Bool → ℕ → ℕ → Type 0
HopsAbove t far channel last zero m = ⊤
HopsAbove t far channel last (suc d) m =
    (on t m < 64) ⊎ (Hops (far (device (on t m))) (port_number (on t m)) channel last
    × HopsAbove t far channel false d (device (on t m)))

-- Control frames reach extender n and come from it: it hangs on the bridge, or the port on which it hangs has a channel
-- by which all extenders above it go.
pub record IsDeep (t : Shape) (h : Held) (far : ℕ → ExtenderState) (n : ℕ) : Type 0 where
  pub channel : ℕ
  pub high : channel < 4095
  pub low : 0 < channel
  pub holds : h.port (trunk t n) channel ≡ Some (on t n)
  pub found : channel_in h (trunk t n) (on t n) ≡ Some channel
  -- no other channel is of that port
  pub only : (c : ℕ) → h.port (trunk t n) c ≡ Some (on t n) → c ≡ channel
  pub hops : HopsAbove t far channel true 64 n

abbrev pub IsReached : Shape → World → ℕ → Type 0
IsReached t w n = (on t n < 64) ⊎ IsDeep t w.control.held w.far n

-- ---- the queue
-- Where no request is outstanding, the head of the queue is the opening of an extender that is there, that wasn't
-- heard, and that is reached; where the queue is empty all extenders are opened and reached.
abbrev pub QueueFacts : Shape → World → Option Work → List Job → Type 0
QueueFacts t w (Some k) js = (is_extender t k.first.extender ≡ true) × IsReached t w k.first.extender
QueueFacts t w None [] = (n : ℕ) → is_extender t n ≡ true → (0 < (w.control.askers n).serial) × IsReached t w n
QueueFacts t w None (job.Opening n ∷ js) = (is_extender t n ≡ true) × (w.control.heard n ≡ false) × IsReached t w n
QueueFacts t w None (j ∷ js) = ⊥

-- the extenders whose sessions matter: that of the outstanding request, that to be opened, or with nothing queued all
abbrev pub Matters : Shape → Option Work → List Job → ℕ → Type 0
Matters t (Some k) js n = n ≡ k.first.extender
Matters t None [] n = is_extender t n ≡ true
Matters t None (job.Opening m ∷ js) n = n ≡ m
Matters t None (j ∷ js) n = ⊥

-- ---- the world
pub record Facts (t : Shape) (l : Limits) (w : World) : Type 0 where
  pub waits : OneWaits w.control
  pub near : (n : ℕ) → NearFacts (w.near n) (w.control.askers n)
  pub far : (n : ℕ) → is_extender t n ≡ true → FarFacts (w.far n)
  pub related : (n : ℕ) → is_extender t n ≡ true → Related (w.control.askers n).waiting (w.control.askers n).serial
      (w.far n).session.last
  pub unheard : (n : ℕ) → is_extender t n ≡ true → w.control.heard n ≡ false → (w.control.askers n).serial ≡ 0
  pub downs : (m : ℕ) → is_extender t m ≡ true → Each (WordFacts t w.control.held (GoesDown w.control) m) (w.down m)
  pub ups : (m : ℕ) → is_extender t m ≡ true → Each (WordFacts t w.control.held (ComesUp t w.control w.far) m) (w.up m)
  pub queue : QueueFacts t w w.control.work w.control.queue
  -- no extender sends a control frame on to a wrong one
  pub routes : Routes t w.control.held w.far

-- ---- the steps of a round
pub data OnLink : Step → Type 0 where
  carries : (n : ℕ) (way : Way) → OnLink (Carry n way)
  delivers : (n : ℕ) (way : Way) (k : ℕ) (keep : Bool) → OnLink (Control n way k keep)
  loses : (n : ℕ) (way : Way) (k : ℕ) → OnLink (Lose n way k)

-- each step on a link that may be made keeps it
pub record Moves (t : Shape) (l : Limits) (I : World → Type 0) : Type 0 where
  pub steps : (step : Step) (w : World) → OnLink step → Can t w step → I w → I (stepped t l step w).world

-- An invariant of the world: it gives the facts, and each step of a round that may be made keeps it.
pub record IsInvariant (t : Shape) (l : Limits) (I : World → Type 0) : Type 0 where
  pub facts : (w : World) → I w → Facts t l w
  pub moves : Moves t l I
  pub beats : (w : World) → I w → I (stepped t l Beat w).world
