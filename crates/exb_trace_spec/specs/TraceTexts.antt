-- How the text of a trace is read back.
use Rattle.std.specs.Prelude.{◌≡◌, ℕ, ◌+◌, ◌-◌, ◌*◌, ◌<◌, ◌≤◌, ◌==◌, ◌&&◌, nat_eq, nat_le, if◌then◌else◌, List, [], ◌∷◌, drop, codes, Option, Some, None, option_map, option_and_then}
use Rattle.std.specs.List.{starts_with}
use Rattle.std.specs.Str.{bytes_eq}
use Rattle.exb_model.specs.Frames.{IsBytes}
use Rattle.exb_trace_spec.specs.JournalLines.{Entry, entry_in, entry_text, IsWritable}
use Rattle.exb_model.specs.Traces.{TraceLine, In, Out, Beat, Journal}
use Rattle.exb_trace_spec.specs.TextFields.{lines_in, words_in, all_read, small_in}

-- ---- reading a line
-- the value of a hexadecimal digit, in lower case
abbrev pub digit_in : ℕ → Option ℕ
digit_in c =
    if nat_le 48 c && nat_le c 57 then Some (c - 48)
    else if nat_le 97 c && nat_le c 102 then Some (c - 87)
    else None

abbrev pub byte_in : ℕ → ℕ → Option ℕ
byte_in high low = option_and_then (λ h. option_map (λ l. 16 * h + l) (digit_in low)) (digit_in high)

unfoldable pub bytes_in : List ℕ → Option (List ℕ)
bytes_in [] = Some []
bytes_in (c ∷ []) = None
bytes_in (high ∷ low ∷ rest) = option_and_then (λ b. option_map (λ bs. b ∷ bs) (bytes_in rest)) (byte_in high low)

-- b is 0, and xN is N
abbrev pub device_in : List ℕ → Option ℕ
device_in [] = None
device_in (c ∷ rest) =
    if bytes_eq (c ∷ rest) (codes "b") then Some 0
    else if c == 120 then small_in rest
    else None

-- a port of the device by its number, or where an extender is upstream
abbrev pub side_in : ℕ → List ℕ → Option ℕ
side_in n text = if bytes_eq text (codes "up") then (if n == 0 then None else Some 0) else small_in text

abbrev pub passing_by : List ℕ → ℕ → ℕ → List ℕ → Option TraceLine
passing_by way n k bytes =
    if bytes_eq way (codes "in") then Some (In n k bytes)
    else if bytes_eq way (codes "out") then Some (Out n k bytes)
    else None

abbrev pub passing_in : List (List ℕ) → Option TraceLine
passing_in (way ∷ []) = if bytes_eq way (codes "beat") then Some Beat else None
passing_in (way ∷ device ∷ side ∷ bytes ∷ []) =
    option_and_then (λ n. option_and_then (λ k. option_and_then (passing_by way n k) (bytes_in bytes)) (side_in n side))
    (device_in device)
passing_in _ = None

-- A line of the journal is one that can be read.
abbrev pub journal_by : List ℕ → Option Entry → Option TraceLine
journal_by text None = None
journal_by text (Some e) = Some (Journal text)

-- the line of a text without its newline, if it is one
unfoldable pub read_line : List ℕ → Option TraceLine
read_line text =
    if starts_with nat_eq text (codes "= ") then journal_by (drop 2 text) (entry_in (drop 2 text))
    else passing_in (words_in text)

unfoldable pub read_trace : List ℕ → Option (List TraceLine)
read_trace text = option_and_then (λ lines. all_read read_line lines) (lines_in text)

-- ---- lines that can be written
-- the bridge and a port of it, or an extender and upstream or a port of it
pub record IsSide (n k : ℕ) : Type 0 where
  pub device : n ≤ 64
  pub side : k ≤ 64
  pub port : n ≡ 0 → 0 < k

-- the text of a line of the journal
pub record IsEntryText (text : List ℕ) : Type 0 where
  pub entry : Entry
  pub writable : IsWritable entry
  pub is : text ≡ entry_text entry

abbrev pub IsSpelled : TraceLine → Type 0
IsSpelled (In n k bytes) = IsSide n k × IsBytes bytes
IsSpelled (Out n k bytes) = IsSide n k × IsBytes bytes
IsSpelled Beat = Unit {0}
IsSpelled (Journal text) = IsEntryText text
