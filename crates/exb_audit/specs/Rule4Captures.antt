-- Rule 4, for what comes in and for what goes out: what is known of lines by the counts of ports.
use Rattle.std.specs.Prelude.{◌≡◌, ℕ, ◌==◌, Bool, true, false, not, List, [], ◌∷◌, length, slice_index, flat_map}
use Rattle.exb_model.specs.Traces.{TraceLine, In, Out, Beat, Journal}
use Rattle.exb_model.specs.Tree.{Shape, is_external}
use Rattle.exb_trace_spec.specs.Rule3Links.{place_of, in_at, out_at}
use Rattle.exb_audit.specs.FrameCounts.{IsSoFar}
use Rattle.exb_audit.specs.declared.frames.PortFrames.{PortFrames}
use Rattle.exb_audit.specs.Frames.{frames_by}

-- a frame goes that way
abbrev pub goes : Bool → TraceLine → Bool
goes comes_in (In n k f) = comes_in
goes comes_in (Out n k f) = not comes_in
goes comes_in _ = false

abbrev pub frame_of : TraceLine → List ℕ
frame_of (In n k f) = f
frame_of (Out n k f) = f
frame_of Beat = []
frame_of (Journal text) = text

-- the frames that go that way at a port
abbrev pub passing_at : Bool → ℕ → TraceLine → List (List ℕ)
passing_at true p l = in_at (place_of p) l
passing_at false p l = out_at (place_of p) l

-- it goes at that port and at no other
pub record IsAtPort (t : Shape) (comes_in : Bool) (l : TraceLine) (p : ℕ) : Type 0 where
  pub external : is_external t p ≡ true
  pub here : passing_at comes_in p l ≡ frame_of l ∷ []
  pub others : (q : ℕ) → is_external t q ≡ true → (q == p) ≡ false → passing_at comes_in q l ≡ []

abbrev pub IsNowhere : Shape → Bool → TraceLine → Type 0
IsNowhere t comes_in l = (q : ℕ) → is_external t q ≡ true → passing_at comes_in q l ≡ []

-- each external port has its frames
abbrev pub AreAll : Bool → Shape → List PortFrames → List TraceLine → Type 0
AreAll comes_in t all lines = (p : ℕ) → is_external t p ≡ true → flat_map (passing_at comes_in p) lines
    ≡ frames_by all p

-- each has as many of them as are counted
abbrev pub AreSoFar : Bool → Shape → List PortFrames → List TraceLine → List ℕ → Type 0
AreSoFar comes_in t all lines counts = (p : ℕ) → is_external t p ≡ true
    → IsSoFar (passing_at comes_in p) lines (frames_by all p) (slice_index counts p)

abbrev pub AreCounted : Shape → List PortFrames → List ℕ → Type 0
AreCounted t all counts = (p : ℕ) → is_external t p ≡ true → slice_index counts p ≡ length (frames_by all p)
