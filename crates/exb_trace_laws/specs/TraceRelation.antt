-- What ties a world to the trace that it has told.
use Rattle.std.specs.Prelude.{◌≡◌, ℕ, ◌==◌, true, List, [], ◌∷◌, ◌++◌, filter, map}
use Rattle.exb_model.specs.History.{History}
use Rattle.exb_model.specs.Tree.{Shape, is_extender}
use Rattle.exb_model.specs.declared.arrival.Arrival.{Arrival}
use Rattle.exb_link.specs.declared.link_frame.LinkFrame.{LinkFrame}
use Rattle.exb_link.specs.LinkFrames.{is_control}
use Rattle.exb_world_spec.specs.Worlds.{World, Way, Left, Step, Arrive}
use Rattle.exb_world_spec.specs.Steps.{words_on}
use Rattle.exb_model.specs.Traces.{TraceLine}
use Rattle.exb_trace_spec.specs.Rule2Extenders.{after_trace}
use Rattle.exb_trace_laws.specs.LinkEnds.{start_of, end_of}
use Rattle.exb_trace_spec.specs.JournalLines.{journal_of}
use Rattle.exb_trace_spec.specs.Rule3Links.{ins, outs, data_of, WasSent}
use Rattle.exb_trace_spec.specs.LegalTrace.{LegalSoFar}

-- ---- the files of a run so far
abbrev pub captures_of : List Arrival → ℕ → List (List ℕ)
captures_of arrivals p = map (λ (a : Arrival). a.bytes) (filter (λ (a : Arrival). a.port == p) arrivals)

abbrev pub outputs_of : List Left → ℕ → List (List ℕ)
outputs_of left p = map (λ (x : Left). x.bytes) (filter (λ (x : Left). x.port == p) left)

-- ---- words on links
abbrev pub bytes_of : List LinkFrame → List (List ℕ)
bytes_of ws = map (λ (x : LinkFrame). x.bytes) ws

-- each control word, with the data frames that came in and those that stand before it
abbrev pub EachControl : (List (List ℕ) → List ℕ → Type 0) → List (List ℕ) → List LinkFrame → Type 0
EachControl P before [] = Unit {0}
EachControl P before (x ∷ xs) = (is_control x ≡ true → P before x.bytes)
    × EachControl P (before ++ data_of (x.bytes ∷ [])) xs

-- The data words on a link are those that are out and not in, in order. Each control word on it is one that is out, and
-- the data words out before it are in or stand before it.
pub record IsOnLink (sent taken : List (List ℕ)) (ws : List LinkFrame) : Type 0 where
  pub frames : data_of sent ≡ data_of taken ++ data_of (bytes_of ws)
  pub controls : EachControl (WasSent sent) (data_of taken) ws

-- Traced: over the arrivals so far in order, the history, and what has left
pub record Traced (t : Shape) (w : World) (arrivals : List Arrival) (h : History) (left : List Left)
    (lines : List TraceLine) : Type 0 where
  pub legal : LegalSoFar t (journal_of h) (captures_of arrivals) (outputs_of left) lines
  pub states : (n : ℕ) → is_extender t n ≡ true → w.far n ≡ (after_trace t n lines).state
  pub links : (n : ℕ) (way : Way) → is_extender t n ≡ true
      → IsOnLink (outs (start_of t n way) lines) (ins (end_of t n way) lines) (words_on n way w)

-- what a step gives to the captures
abbrev pub given_by : Step → List Arrival
given_by (Arrive a) = a ∷ []
given_by _ = []
