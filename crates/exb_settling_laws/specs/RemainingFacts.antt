-- Of the facts that the bound needs, what the sessions over the words (`WorldFits`) and the ways of control frames
-- (`Routes`) leave to be shown.
use Rattle.std.specs.Prelude.{◌≡◌, ◌≢◌, ℕ, ◌<◌, nat_lt, false, true, List, Option, Some, None, ⊤}
use Rattle.exb_model.specs.Tree.{Shape, is_extender}
use Rattle.exb_csp.specs.declared.message.Request.{Request}
use Rattle.exb_csp.specs.Decoding.{read_message}
use Rattle.exb_model.specs.Frames.{IsBytes}
use Rattle.exb_ecp.specs.StopAndWait.{Sending, after, State as Ecp}
use Rattle.exb_extender.specs.Forwarding.{is_bare_control}
use Rattle.exb_extender.specs.Machine.{ExtenderState}
use Rattle.exb_link.specs.declared.link_frame.LinkFrame.{LinkFrame}
use Rattle.exb_link.specs.LinkFrames.{is_control}
use Rattle.exb_control_spec.specs.Plans.HeldNumbers.{Held}
use Rattle.exb_csp.specs.Sessions.AskingEnd.{AskerState}
use Rattle.exb_world_spec.specs.Worlds.{World}
use Rattle.exb_world_spec.specs.Runs.Sessions.{Each, IsTagged}
use Rattle.exb_settling_laws.specs.StopAndWait.{Message as Note, Request as Asks, Answer as Answers, Ack, Hello}
use Rattle.exb_settling_laws.specs.Streams.{serial_of, message_note, note_of, addressee, plain}
use Rattle.exb_settling_laws.specs.SettlingFacts.{IsOfKind, IsAnnouncement, IsAbove, QueueFacts}

-- what an end sends is the message of its last serial, under the sequence before its next one, and isn't given up
pub record IsOfSerial (make : ℕ → ℕ → Note) (e : Ecp) (serial : ℕ) (x : Sending) : Type 0 where
  pub sequence : after x.sequence ≡ e.next
  pub serial_is : serial_of (read_message x.payload) ≡ serial
  pub reads : message_note x.sequence (read_message x.payload) ≡ Some (make x.sequence serial)
  pub beats : x.beats < 12

pub record NearLeft (e : Ecp) (a : AskerState) : Type 0 where
  pub before : (q : ℕ) × (after q ≡ e.next)
  pub sending : (x : Sending) → e.sending ≡ Some x → IsOfSerial Asks e a.serial x
  pub beats : a.beats < 16
  pub even : (x : Sending) → e.sending ≡ Some x → x.beats ≡ a.beats
  pub quiet : a.waiting ≡ None → e.sending ≡ None
  -- a request that waits was asked
  pub asked : (request : Request) → a.waiting ≡ Some request → 0 < a.serial

pub record FarLeft (x : ExtenderState) : Type 0 where
  pub before : (y : ℕ) × (after y ≡ x.ecp.next)
  pub sending : (z : Sending) → x.ecp.sending ≡ Some z → IsOfSerial Answers x.ecp x.session.last z
  pub opened : x.opened ≡ nat_lt 0 x.session.last

-- ---- words
abbrev pub IsDownNote : Option Note → Type 0
IsDownNote (Some (Asks sequence serial)) = ⊤
IsDownNote (Some (Ack sequence)) = ⊤
IsDownNote _ = ⊥

abbrev pub IsUpNote : Option Note → Type 0
IsUpNote (Some (Answers sequence serial)) = ⊤
IsUpNote (Some (Ack sequence)) = ⊤
IsUpNote (Some Hello) = ⊤
IsUpNote _ = ⊥

-- what goes down reads as a request or an acknowledgement; what comes up as an answer, an acknowledgement or an
-- announcement
abbrev pub KindDown : ℕ → List ℕ → Type 0
KindDown n f = IsDownNote (note_of f)

abbrev pub KindUp : Shape → (ℕ → AskerState) → ℕ → List ℕ → Type 0
KindUp t askers n f = IsUpNote (note_of f) × IsOfKind (askers n) f × IsAnnouncement t n f

-- of a word: it is bytes; a control word with the channel of an extender stands above that one; and it is of such a
-- kind
pub record WordLeft (t : Shape) (h : Held) (K : ℕ → List ℕ → Type 0) (m : ℕ) (x : LinkFrame) : Type 0 where
  pub bytes : IsBytes x.bytes
  pub placed : is_control x ≡ true → (n : ℕ) (c : List ℕ) → is_extender t n ≡ true → is_bare_control c ≡ true
      → IsTagged t h m x.bytes n c → (m ≢ n) × IsAbove t 64 m n
  pub reads : is_control x ≡ true → (n : ℕ) → addressee t h m x.bytes ≡ Some n → K n (plain x.bytes)

-- ---- the world
pub record Left (t : Shape) (w : World) : Type 0 where
  pub near : (n : ℕ) → NearLeft (w.near n) (w.control.askers n)
  pub far : (n : ℕ) → is_extender t n ≡ true → FarLeft (w.far n)
  pub unheard : (n : ℕ) → is_extender t n ≡ true → w.control.heard n ≡ false → (w.control.askers n).serial ≡ 0
  pub downs : (m : ℕ) → is_extender t m ≡ true → Each (WordLeft t w.control.held KindDown m) (w.down m)
  pub ups : (m : ℕ) → is_extender t m ≡ true → Each (WordLeft t w.control.held (KindUp t w.control.askers) m) (w.up m)
  pub queue : QueueFacts t w w.control.work w.control.queue
