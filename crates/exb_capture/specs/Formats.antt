-- What is read of a capture, whichever its format: a format says what stands at the front of what is left, and
-- the records of a file follow from that alone.
use Rattle.std.specs.Prelude.{ℕ, zero, suc, ◌+◌, ◌-◌, ◌^◌, nat_lt, min, if◌then◌else◌, List, [], ◌∷◌, length, drop, Option, Some, None, Result, Ok, Err}
use Rattle.exb_model.specs.Input.{Record}
use Rattle.exb_capture.specs.declared.fault.FormatFault.{FormatFault}
use Rattle.exb_capture.specs.declared.fault.Flaw.{Flaw}
use Rattle.exb_capture.specs.declared.fault.Flaw.TheVariants.{Cut}

-- a flaw so many bytes behind the place where what is read begins
abbrev pub fault : Flaw → ℕ → FormatFault
fault flaw n = record { flaw = flaw; at = n }

-- a place so many bytes behind another one, as 64 bits tell it: their sum in every file of fewer than 2^64 bytes
abbrev pub behind : ℕ → ℕ → ℕ
behind place n = min (place + n) (2 ^ 64 - 1)

-- the same fault, in what begins at this place of the file
abbrev pub at_place : ℕ → FormatFault → FormatFault
at_place place f = record f { at = behind place f.at }

-- What stands at the front of what is left, for a format whose reading is in a state of S.
pub data Front (S : Type 0) : Type 0 where
  -- nothing is there: where the file ends, it has ended well
  Nothing : Front S
  -- what more bytes decide; where the file ends, it has this fault
  Short : FormatFault → Front S
  -- a fault, whatever follows
  Bad : FormatFault → Front S
  -- so many bytes that are no record, and the state behind them; they need not all be there yet
  Over : ℕ → S → Front S
  -- a record, how many bytes it takes, all of which are there, and the state behind it
  Holds : Record → ℕ → S → Front S

-- what is read of a capture: its records up to the end or the first fault, where in the file each begins, and that
-- fault
pub record Capture : Type 0 where
  pub records : List Record
  pub places : List ℕ
  pub fault : Option FormatFault

-- nothing is left
abbrev pub at_end : Capture
at_end = record { records = []; places = []; fault = None }

-- what is left has this fault at its front
abbrev pub at_fault : FormatFault → Capture
at_fault f = record { records = []; places = []; fault = Some f }

-- a record that begins at this place, and what follows it
abbrev pub before : Record → ℕ → Capture → Capture
before x place rest = record { records = x ∷ rest.records; places = place ∷ rest.places; fault = rest.fault }

-- what is read of what is left, which begins at this place, where this stands at its front
abbrev pub continued : {S : Type 0} → Front S → ℕ → List ℕ → (S → ℕ → List ℕ → Capture) → Capture
continued Nothing place left rest = at_end
continued (Short f) place left rest = at_fault (at_place place f)
continued (Bad f) place left rest = at_fault (at_place place f)
continued (Over n s) place left rest =
    if nat_lt (length left) n then at_fault (fault Cut place) else rest s (behind place n) (drop n left)
continued (Holds x n s) place left rest = before x place (rest s (behind place n) (drop n left))

-- the records of what is left, in at most so many steps
unfoldable pub reading_within : {S : Type 0} → (S → List ℕ → Front S) → ℕ → S → ℕ → List ℕ → Capture
reading_within front zero s place left = at_end
reading_within front (suc n) s place left = continued (front s left) place left (reading_within front n)

-- the records of what is left; a step takes at least a byte, so there is one more than bytes
unfoldable pub reading_from : {S : Type 0} → (S → List ℕ → Front S) → S → ℕ → List ℕ → Capture
reading_from front s place left = reading_within front (suc (length left)) s place left

-- all records, where there is no fault
abbrev pub whole : Capture → Result (List Record) FormatFault
whole c = whole_of c.fault c.records
  where
    whole_of : Option FormatFault → List Record → Result (List Record) FormatFault
    whole_of None records = Ok records
    whole_of (Some f) records = Err f
