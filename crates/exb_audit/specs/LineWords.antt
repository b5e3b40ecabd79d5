-- What the functions that read lines answer, in the words of the rules.
use Rattle.std.specs.Prelude.{◌≡◌, ◌⊎◌, ℕ, ◌<◌, ◌≤◌, ◌^◌, Bool, true, false, is_some, if◌then◌else◌, List, [], ◌∷◌, length, codes, Option, Some, None, option_and_then}
use Rattle.std.specs.Str.{bytes_eq}
use Rattle.exb_model.specs.declared.trace.TraceWay.{TraceWay}
use Rattle.exb_model.specs.declared.trace.TraceWay.TheVariants as way
use Rattle.exb_model.specs.Traces.{TraceLine}
use Rattle.exb_trace_spec.specs.TraceChecker.{record_of}
use Rattle.exb_trace_spec.specs.JournalLines.{Entry, Relayed, Ignored, entry_by, entry_in}
use Rattle.exb_trace_spec.specs.TraceTexts.{bytes_in, device_in, side_in}
use Rattle.exb_trace_spec.specs.TextFields.{number_in, port_in, words_in}
use Rattle.exb_audit.specs.declared.journal_lines.RecordName.{RecordName}

-- ---- numbers
-- a number that 64 bits don't hold
abbrev pub IsPast : Option ℕ → Type 0
IsPast None = Unit {0}
IsPast (Some n) = 2 ^ 64 ≤ n

-- the number of a text; none where it is no number, or 64 bits don't hold it
abbrev pub TellsNumber : List ℕ → Option ℕ → Type 0
TellsNumber text None = IsPast (number_in text)
TellsNumber text (Some n) = number_in text ≡ Some n

-- ---- lines of the journal
abbrev pub is_arrival_entry : List ℕ → List ℕ → List ℕ → Bool
is_arrival_entry kind at index = is_some (entry_by (kind ∷ at ∷ index ∷ []))

abbrev pub is_long_entry : List ℕ → List ℕ → List ℕ → List ℕ → Bool
is_long_entry kind what reason rest = is_some (entry_by (kind ∷ what ∷ reason ∷ words_in rest))

-- captures of fewer frames than 64 bits count
abbrev pub AreFew : (ℕ → List (List ℕ)) → Type 0
AreFew captures = (p : ℕ) → length (captures p) < 2 ^ 64

-- none of a port and an index: the one is no port, or the other names no record
abbrev pub NamesNone : Option ℕ → Option ℕ → Type 0
NamesNone (Some p) (Some n) = 2 ^ 64 ≤ n
NamesNone _ _ = Unit {0}

abbrev pub IsNamedBy : List ℕ → List ℕ → Option RecordName → Type 0
IsNamedBy at index None = NamesNone (port_in at) (number_in index)
IsNamedBy at index (Some named) = (port_in at ≡ Some named.port) × (number_in index ≡ Some named.index)
    × (named.port < 4160)

-- the entry names that record
abbrev pub Names : Option Entry → ℕ → ℕ → Type 0
Names e p n = (e ≡ Some (Relayed p n)) ⊎ (e ≡ Some (Ignored p n))

-- the record that a line names; none where it names none that is there
abbrev pub IsNamed : List ℕ → Option RecordName → Type 0
IsNamed line None = (captures : ℕ → List (List ℕ)) → AreFew captures → record_of captures (entry_in line) ≡ None
IsNamed line (Some named) = Names (entry_in line) named.port named.index × (named.port < 4160)

-- ---- lines of the trace
-- what was read of hexadecimal digits
abbrev pub HasRead : List ℕ → List ℕ → Bool → Type 0
HasRead hex bytes true = bytes_in hex ≡ Some bytes
HasRead hex bytes false = bytes_in hex ≡ None

abbrev pub way_in : List ℕ → Option TraceWay
way_in text =
    if bytes_eq text (codes "in") then Some way.In
    else if bytes_eq text (codes "out") then Some way.Out
    else None

abbrev pub passing_by_words : List ℕ → ℕ → ℕ → List ℕ → Option TraceLine
passing_by_words way n k hex = option_and_then (Rattle.exb_trace_spec.specs.TraceTexts.passing_by way n k)
    (bytes_in hex)

-- the line of four words
abbrev pub passing_words : List ℕ → List ℕ → List ℕ → List ℕ → Option TraceLine
passing_words way device side hex = option_and_then (λ n. option_and_then (λ k. passing_by_words way n k hex)
    (side_in n side)) (device_in device)
