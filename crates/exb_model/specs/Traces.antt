-- The lines of a trace, and their text.
use Rattle.std.specs.Prelude.{ℕ, ◌+◌, ◌/◌, ◌%◌, ◌==◌, nat_lt, if◌then◌else◌, List, [], ◌∷◌, ◌++◌, codes, decimal, flat_map}
use Rattle.exb_model.specs.declared.trace.TraceWay.{TraceWay}
use Rattle.exb_model.specs.declared.trace.TraceWay.TheVariants as way

-- What a device takes by a side, and what it sends there; a beat; a line of the journal, without its newline. Device 0
-- is the bridge and device n extender n; side 0 is upstream and side k port k.
pub data TraceLine : Type 0 where
  In : (who at : ℕ) (bytes : List ℕ) → TraceLine
  Out : (who at : ℕ) (bytes : List ℕ) → TraceLine
  Beat : TraceLine
  Journal : (text : List ℕ) → TraceLine

-- the line of a way, a device, a side and bytes
abbrev pub line_by : TraceWay → ℕ → ℕ → List ℕ → TraceLine
line_by way.In who at bytes = In who at bytes
line_by way.Out who at bytes = Out who at bytes
line_by way.Beat who at bytes = Beat
line_by way.Journal who at bytes = Journal bytes

-- ---- the text
-- a hexadecimal digit, in lower case
abbrev pub hex_digit : ℕ → ℕ
hex_digit n = if nat_lt n 10 then 48 + n else 87 + n

-- two digits for each byte, without spaces
abbrev pub hexadecimal : List ℕ → List ℕ
hexadecimal bytes = flat_map (λ b. hex_digit (b / 16) ∷ hex_digit (b % 16) ∷ []) bytes

-- b, or xN
abbrev pub device_text : ℕ → List ℕ
device_text n = if n == 0 then codes "b" else codes "x" ++ decimal n

-- up, or the port's number
abbrev pub side_text : ℕ → List ℕ
side_text k = if k == 0 then codes "up" else decimal k

abbrev pub place_text : ℕ → ℕ → List ℕ → List ℕ
place_text n k bytes = device_text n ++ codes " " ++ side_text k ++ codes " " ++ hexadecimal bytes

-- the text of a line, without its newline
unfoldable pub trace_line : TraceLine → List ℕ
trace_line (In n k bytes) = codes "in " ++ place_text n k bytes
trace_line (Out n k bytes) = codes "out " ++ place_text n k bytes
trace_line Beat = codes "beat"
trace_line (Journal text) = codes "= " ++ text

-- TraceText: the lines, each ended by a newline
unfoldable pub trace_text : List TraceLine → List ℕ
trace_text lines = flat_map (λ l. trace_line l ++ 10 ∷ []) lines
