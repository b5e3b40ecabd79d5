-- Each line of a legal trace can be written and read back, where its frames are bytes and its journal has numbers of 64
-- bits.
use Rattle.std.specs.Prelude.{◌≤◌, ℕ, List, slice_index}
use Rattle.exb_model.specs.Frames.{IsBytes}
use Rattle.exb_model.specs.History.{History}
use Rattle.exb_model.specs.Traces.{TraceLine, In, Out}
use Rattle.exb_model.specs.Tree.{Shape}
use Rattle.exb_trace_spec.specs.CheckerLaws.{IsSized}
use Rattle.exb_trace_spec.specs.JournalLines.{journal_of}
use Rattle.exb_trace_spec.specs.TraceTexts.{IsSpelled}
use Rattle.exb_trace_spec.specs.Rule1Places.{HasPlaces}
use Rattle.exb_trace_spec.specs.Traversals.{Each}
use Rattle.exb_trace_spec.specs.RoundTrips.{IsOfNumbers}

-- the frame of a line is a list of bytes
abbrev pub HasBytes : TraceLine → Type 0
HasBytes (In n k bytes) = IsBytes bytes
HasBytes (Out n k bytes) = IsBytes bytes
HasBytes _ = Unit {0}

-- no device has more than 64 ports
abbrev pub IsSmall : Shape → Type 0
IsSmall t = (n : ℕ) → slice_index t.ports n ≤ 64

abbrev pub LegalLinesAreSpelled : Type 0
LegalLinesAreSpelled = (t : Shape) (h : History) (lines : List TraceLine) → IsSized t → IsSmall t
    → HasPlaces t (journal_of h) lines → Each HasBytes lines → Each IsOfNumbers h → Each IsSpelled lines
