-- The texts of a trace and of a journal are read back as what they were written of, so no two have one text.
use Rattle.std.specs.Prelude.{◌≡◌, ℕ, true, is_some, List, Some}
use Rattle.exb_model.specs.declared.event.Event.{Event}
use Rattle.exb_model.specs.History.{History}
use Rattle.exb_model.specs.declared.arrival.Arrival.{Arrival}
use Rattle.exb_model.specs.Texts.{journal_text}
use Rattle.exb_trace_spec.specs.Traversals.{Each}
use Rattle.exb_trace_spec.specs.JournalLines.{Entry, entry_of, entry_text, entry_in, history_in, journal_of, IsWritable, IsRecorded}
use Rattle.exb_trace_spec.specs.TextFields.{lines_in}
use Rattle.exb_model.specs.Traces.{TraceLine, trace_line, trace_text}
use Rattle.exb_trace_spec.specs.TraceTexts.{read_line, read_trace, IsSpelled}

-- ---- a trace
abbrev pub LinesReadBack : Type 0
LinesReadBack = (line : TraceLine) → IsSpelled line → read_line (trace_line line) ≡ Some line

abbrev pub LinesDiffer : Type 0
LinesDiffer = (x y : TraceLine) → IsSpelled x → IsSpelled y → trace_line x ≡ trace_line y → x ≡ y

-- And what is read as a line is its text: just the texts of lines are read.
abbrev pub LinesAreWritten : Type 0
LinesAreWritten = (text : List ℕ) (line : TraceLine) → read_line text ≡ Some line → trace_line line ≡ text

abbrev pub TracesReadBack : Type 0
TracesReadBack = (lines : List TraceLine) → Each IsSpelled lines → read_trace (trace_text lines) ≡ Some lines

-- ---- a journal
abbrev pub EntriesReadBack : Type 0
EntriesReadBack = (e : Entry) → IsWritable e → entry_in (entry_text e) ≡ Some e

abbrev pub EntriesAreWritten : Type 0
EntriesAreWritten = (text : List ℕ) (e : Entry) → entry_in text ≡ Some e → IsWritable e → entry_text e ≡ text

-- The text of a journal and the arrivals of each port give the history.
abbrev pub JournalsReadBack : Type 0
JournalsReadBack = (arrivals : ℕ → List Arrival) (h : History) → Each (IsRecorded arrivals) h
    → history_in arrivals (journal_text h) ≡ Some h

-- So it is one history.
abbrev pub JournalsDiffer : Type 0
JournalsDiffer = (arrivals : ℕ → List Arrival) (g h : History) → Each (IsRecorded arrivals) g
    → Each (IsRecorded arrivals) h → journal_text g ≡ journal_text h → g ≡ h

-- ---- an event of which a line tells
-- its ports are ports, and its numbers have 64 bits
abbrev pub IsOfNumbers : Event → Type 0
IsOfNumbers e = IsWritable (entry_of e)

-- The text of a journal is cut into its lines, each of which can be read.
pub record IsReadByLines (h : History) : Type 0 where
  pub cut : lines_in (journal_text h) ≡ Some (journal_of h)
  pub read : Each (λ line. is_some (entry_in line) ≡ true) (journal_of h)

abbrev pub JournalsAreLines : Type 0
JournalsAreLines = (h : History) → Each IsOfNumbers h → IsReadByLines h
