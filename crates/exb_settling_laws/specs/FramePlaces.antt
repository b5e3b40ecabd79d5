-- Control frames as they stand on links: whose each one is, that it stands on the way of that extender, and what it
-- reads as.
use Rattle.std.specs.Prelude.{◌≡◌, ◌≢◌, ◌⊎◌, ℕ, true, List}
use Rattle.exb_model.specs.Tree.{Shape, is_extender}
use Rattle.exb_extender.specs.Forwarding.{is_bare_control}
use Rattle.exb_model.specs.Frames.{is_control_frame}
use Rattle.exb_link.specs.declared.link_frame.LinkFrame.{LinkFrame}
use Rattle.exb_control_spec.specs.Plans.HeldNumbers.{Held}
use Rattle.exb_world_spec.specs.Runs.Sessions.{Each, IsTagged}
use Rattle.exb_settling_laws.specs.Streams.{note_of}
use Rattle.exb_settling_laws.specs.SettlingFacts.{IsAbove, IsAnnouncement}
use Rattle.exb_settling_laws.specs.RemainingFacts.{IsDownNote, IsUpNote}

-- On the link of extender m, f is a control frame of m or of an extender below it: on that one's own link as it is,
-- above it with the channel of the port on which it hangs. And K holds of it.
pub record IsPlaced (t : Shape) (h : Held) (K : ℕ → List ℕ → Type 0) (m : ℕ) (f : List ℕ) : Type 0 where
  pub of : ℕ
  pub frame : List ℕ
  pub there : is_extender t of ≡ true
  pub bare : is_bare_control frame ≡ true
  pub below : IsAbove t 64 m of
  pub way : ((m ≡ of) × (f ≡ frame)) ⊎ ((m ≢ of) × IsTagged t h m f of frame)
  pub reads : K of frame

-- a frame that has the destination of control frames is such a one
abbrev pub PlacedOn : Shape → Held → (ℕ → List ℕ → Type 0) → ℕ → List ℕ → Type 0
PlacedOn t h K m f = is_control_frame f ≡ true → IsPlaced t h K m f

abbrev pub WordPlaced : Shape → Held → (ℕ → List ℕ → Type 0) → ℕ → LinkFrame → Type 0
WordPlaced t h K m x = PlacedOn t h K m x.bytes

-- a request or an acknowledgement goes down to extender n
abbrev pub ReadsDown : ℕ → List ℕ → Type 0
ReadsDown n f = IsDownNote (note_of f)

-- an answer, an acknowledgement or its own announcement comes up from it
abbrev pub ReadsUp : Shape → ℕ → List ℕ → Type 0
ReadsUp t n f = IsUpNote (note_of f) × IsAnnouncement t n f

-- so it is with each word on the links
pub record ArePlaced (t : Shape) (h : Held) (down up : ℕ → List LinkFrame) : Type 0 where
  pub downs : (m : ℕ) → Each (WordPlaced t h ReadsDown m) (down m)
  pub ups : (m : ℕ) → Each (WordPlaced t h (ReadsUp t) m) (up m)
