-- What holds of the sessions over the words on the links: each request on its way, in bytes, is one that was asked, and
-- each answer one that was stored.
use Rattle.std.specs.Prelude.{◌≡◌, ◌≢◌, ◌⊎◌, ℕ, suc, ◌<◌, ◌≤◌, ◌^◌, true, false, List, [], ◌∷◌, length, drop, Option, Some, None, Ok}
use Rattle.exb_model.specs.Tree.{Shape, HangsOn, on, trunk, above, is_extender}
use Rattle.exb_model.specs.ETags.{tagged}
use Rattle.exb_ecp.specs.declared.pdu.Pdu.{Pdu}
use Rattle.exb_ecp.specs.Frames.{pdu_in}
use Rattle.exb_ecp.specs.StopAndWait.{Sending, State as Ecp}
use Rattle.exb_csp.specs.declared.message.Body.{Body}
use Rattle.exb_csp.specs.declared.message.Body.TheVariants as body
use Rattle.exb_csp.specs.declared.message.Message.{Message}
use Rattle.exb_csp.specs.declared.message.Request.{Request}
use Rattle.exb_csp.specs.declared.message.Response.{Response}
use Rattle.exb_csp.specs.Decoding.{read_message}
use Rattle.exb_csp.specs.Encoding.{IsSpelledRequest, FitsRequest, HasSpelling, Fits, request_bytes, message_bytes}
use Rattle.exb_csp.specs.Sessions.AskingEnd.{AskerState}
use Rattle.exb_csp.specs.Sessions.AnsweringEnd.{AnswererState}
use Rattle.exb_csp.specs.AllTables.{port_of}
use Rattle.exb_extender.specs.Forwarding.{channel_tag, is_bare_control}
use Rattle.exb_model.specs.Frames.{is_control_frame}
use Rattle.exb_extender.specs.Machine.{ExtenderState, IsExtender}
use Rattle.exb_link.specs.declared.link_frame.LinkFrame.{LinkFrame}
use Rattle.exb_control_spec.specs.Plans.HeldNumbers.{Held}
use Rattle.exb_control_spec.specs.declared.extender_message.Asked.{Asked}
use Rattle.exb_csp.specs.declared.ask_at.AskAt.{AskAt}
use Rattle.exb_control_spec.specs.Machine.{Work, State}
use Rattle.exb_control_spec.specs.Runs.MonotoneRequests.{AllAsk}
use Rattle.exb_control_spec.specs.Runs.MachineInvariant.{OneWaits}
use Rattle.exb_control_spec.specs.Runs.RequestTargets.{Knows}
use Rattle.exb_world_spec.specs.Worlds.{World}

-- ---- messages
-- A request is one that was asked: none has a later serial than the asker, and at the asker's serial, while it waits,
-- it is the one that is waited for.
pub record IsAsked (a : AskerState) (serial : ℕ) (request : Request) : Type 0 where
  pub early : serial ≤ a.serial
  pub same : (other : Request) → serial ≡ a.serial → a.waiting ≡ Some other → request ≡ other

abbrev pub WasAsked : AskerState → ℕ → Body → Type 0
WasAsked a serial (body.Ask request) = IsAsked a serial request
WasAsked a serial (body.Answer response) = Unit {0}

-- An answer is one that was stored: none has a later serial than the last, and at that serial it is the stored one.
pub record IsAnswered (x : AnswererState) (serial : ℕ) (response : Response) : Type 0 where
  pub early : serial ≤ x.last
  pub same : serial ≡ x.last → x.answer ≡ Some response

abbrev pub WasAnswered : AnswererState → ℕ → Body → Type 0
WasAnswered x serial (body.Ask request) = Unit {0}
WasAnswered x serial (body.Answer response) = IsAnswered x serial response

-- ---- bytes
-- whatever message these bytes read as, it is one for which P holds
pub record Reads (payload : List ℕ) (P : ℕ → Body → Type 0) : Type 0 where
  pub each : (m : Message) → read_message payload ≡ Ok m → P m.serial m.body

-- and so is what a frame hands up
pub record Hands (f : List ℕ) (P : ℕ → Body → Type 0) : Type 0 where
  pub each : (p : Pdu) → pdu_in f ≡ Ok p → p.acknowledgement ≡ false → Reads (drop 18 f) P

-- and what an end sends
pub record Sends (e : Ecp) (P : ℕ → Body → Type 0) : Type 0 where
  pub each : (x : Sending) → e.sending ≡ Some x → Reads x.payload P × (length x.payload ≤ 1024)

-- ---- words
-- On the link of extender m, f is the control frame c of extender n with the channel of the port on which n hangs.
pub record IsTagged (t : Shape) (h : Held) (m : ℕ) (f : List ℕ) (n : ℕ) (c : List ℕ) : Type 0 where
  pub channel : ℕ
  pub some : 0 < channel
  pub small : channel < 4095
  pub frame : f ≡ tagged c (channel_tag channel)
  pub deep : 64 ≤ on t n
  pub home : trunk t m ≡ trunk t n
  pub holds : h.port (trunk t m) channel ≡ Some (on t n)

-- as it is on n's own link, else with that channel
abbrev pub IsFrameOn : Shape → Held → ℕ → List ℕ → ℕ → List ℕ → Type 0
IsFrameOn t h m f n c = ((m ≡ n) × (f ≡ c)) ⊎ IsTagged t h m f n c

-- it is such a frame of some extender, for which P holds
pub record IsOnWay (t : Shape) (h : Held) (m : ℕ) (f : List ℕ) (P : ℕ → List ℕ → Type 0) : Type 0 where
  pub of : ℕ
  pub frame : List ℕ
  pub there : is_extender t of ≡ true
  pub bare : is_bare_control frame ≡ true
  pub way : IsFrameOn t h m f of frame
  pub fits : P of frame

abbrev pub Each : {A : Type 0} → (A → Type 0) → List A → Type 0
Each P [] = Unit {0}
Each P (x ∷ xs) = P x × Each P xs

-- a frame that has the destination of control frames is such a one
abbrev pub FitsOn : Shape → Held → (ℕ → ℕ → Body → Type 0) → ℕ → List ℕ → Type 0
FitsOn t h P m f = is_control_frame f ≡ true → IsOnWay t h m f (λ n c. Hands c (P n))

abbrev pub WordFits : Shape → Held → (ℕ → ℕ → Body → Type 0) → ℕ → LinkFrame → Type 0
WordFits t h P m x = FitsOn t h P m x.bytes

-- so is each word on the links
abbrev pub LinksFit : Shape → Held → (ℕ → ℕ → Body → Type 0) → (ℕ → List LinkFrame) → Type 0
LinksFit t h P links = (m : ℕ) → Each (WordFits t h P m) (links m)

-- what goes down was asked, and what comes up was stored
abbrev pub AskedOf : (ℕ → AskerState) → ℕ → ℕ → Body → Type 0
AskedOf askers n = WasAsked (askers n)

abbrev pub StoredAt : (ℕ → ExtenderState) → ℕ → ℕ → Body → Type 0
StoredAt far n = WasAnswered (far n).session

-- ---- what can be written
-- a request that can be written, and is short
pub record CanAsk (r : Request) : Type 0 where
  pub spelled : IsSpelledRequest r
  pub fits : FitsRequest r
  pub short : length (request_bytes r) ≤ 640

abbrev pub AllCan : List AskAt → Type 0
AllCan asks = AllAsk CanAsk asks

-- the outstanding request, and those of the change at work that follow
pub record WritesWork (w : Work) : Type 0 where
  pub first : CanAsk w.first.request
  pub rest : AllCan w.rest
  pub cleanup : AllCan w.change.cleanup

abbrev pub WritesIn : Option Work → Type 0
WritesIn None = Unit {0}
WritesIn (Some w) = WritesWork w

-- no request that is waited for has serial 0
abbrev pub AreNumbered : (ℕ → AskerState) → Type 0
AreNumbered askers = (n : ℕ) (request : Request) → (askers n).waiting ≡ Some request → 0 < (askers n).serial

pub record Writes (s : State) : Type 0 where
  pub work : WritesIn s.work
  pub numbered : AreNumbered s.askers

-- ---- the two ends
-- An extender has executed all requests that were asked of it, or all but the one that is waited for.
abbrev pub ArePaired : AskerState → AnswererState → Type 0
ArePaired a x = (x.last ≡ a.serial) ⊎ ((suc x.last ≡ a.serial) × ((request : Request) × (a.waiting ≡ Some request)))

pub record EndsFit (t : Shape) (s : State) (near : ℕ → Ecp) (far : ℕ → ExtenderState) : Type 0 where
  pub knows : Knows t s
  pub writes : Writes s
  pub waits : OneWaits s
  pub paired : (n : ℕ) → ArePaired (s.askers n) (far n).session
  pub extenders : (n : ℕ) → is_extender t n ≡ true → IsExtender (far n)
  pub asking : (n : ℕ) → Sends (near n) (AskedOf s.askers n)
  pub answering : (n : ℕ) → Sends (far n).ecp (StoredAt far n)
  -- no extender answers another code than 0
  pub codes : (n : ℕ) (response : Response) → (far n).session.answer ≡ Some response → response.code ≡ 0

pub record WorldFits (t : Shape) (w : World) : Type 0 where
  pub ends : EndsFit t w.control w.near w.far
  pub downs : LinksFit t w.control.held (AskedOf w.control.askers) w.down
  pub ups : LinksFit t w.control.held (StoredAt w.far) w.up

-- ---- what a step of the world needs, and the machine of changes has to give
-- Under a channel of the port on which an extender hangs, the tables of extender m send a frame on towards it, as it
-- is, or at that port without its E-TAG; and nowhere else.
pub record IsNextHop (t : Shape) (x : ExtenderState) (m p channel n : ℕ) : Type 0 where
  pub way : above t (port_of m p) (on t n) ≡ true
  pub hop : ((port_of m p ≡ on t n) × (x.tables.own p ≡ channel))
      ⊎ ((x.tables.cascade p ≡ true) × (x.tables.own p ≢ channel) × ((c : ℕ) × HangsOn t c (port_of m p)))

pub record Routes (t : Shape) (h : Held) (far : ℕ → ExtenderState) : Type 0 where
  pub down : (m p channel n : ℕ) → is_extender t m ≡ true → is_extender t n ≡ true → 64 ≤ on t n
      → h.port (trunk t m) channel ≡ Some (on t n) →
      0 < channel → channel < 4095 → 0 < p → p ≤ 64 → 0 < (far m).tables.own p → (far m).tables.pair channel p ≡ true
      → IsNextHop t (far m) m p channel n
  -- the own channel of a cascade port is the one that it holds
  pub up : (m p n : ℕ) → is_extender t m ≡ true → HangsOn t n (port_of m p) → 0 < p → p ≤ 64 → 0 < (far m).tables.own p
      → h.port (trunk t m) ((far m).tables.own p) ≡ Some (port_of m p)

-- the ports on which extenders hang keep their channels
abbrev pub KeepsCascades : Shape → Held → Held → Type 0
KeepsCascades t h g = (n channel : ℕ) → is_extender t n ≡ true → 64 ≤ on t n → 0 < channel
    → h.port (trunk t n) channel ≡ Some (on t n) → g.port (trunk t n) channel ≡ Some (on t n)

-- each message that goes out can be written, and is short
pub record CanBeSent (m : Message) : Type 0 where
  pub spelled : HasSpelling m
  pub fits : Fits m
  pub short : length (message_bytes m) ≤ 1024

abbrev pub AreSent : List Asked → Type 0
AreSent asks = Each (λ a. CanBeSent a.message) asks

-- the serials fit their field
abbrev pub AreLow : (ℕ → AskerState) → Type 0
AreLow askers = (n : ℕ) → (askers n).serial < 2 ^ 64
