-- A reader that is fed a file in pieces, over any format, as a machine: its state, and what each call makes of it.
use Rattle.std.specs.Prelude.{◌≡◌, ◌<◌, ◌≤◌, ℕ, zero, suc, ◌-◌, ◌++◌, nat_lt, min, if◌then◌else◌, Bool, true, false, List, [], length, drop, take, Option, Some, None}
use Rattle.exb_model.specs.Frames.{IsBytes}
use Rattle.exb_model.specs.Input.{Record}
use Rattle.exb_capture.specs.declared.fault.FormatFault.{FormatFault}
use Rattle.exb_capture.specs.declared.fault.Flaw.{Flaw}
use Rattle.exb_capture.specs.declared.fault.Flaw.TheVariants.{Cut}
use Rattle.exb_capture.specs.Formats.{Front, Nothing, Short, Bad, Over, Holds, Capture, at_end, at_fault, before, fault, behind, at_place, reading_from}

-- ---- what a format has to keep
-- this front of so many bytes isn't one with this flaw, and where all of them are passed over it is none of what is cut
-- off
abbrev pub IsOther : {S : Type 0} → Flaw → ℕ → Front S → Type 0
IsOther flaw size Nothing = Unit {0}
IsOther flaw size (Short f) = f.flaw ≡ flaw → ⊥
IsOther flaw size (Bad f) = f.flaw ≡ flaw → ⊥
IsOther flaw size (Over n s) = (n ≡ size) × (flaw ≡ Cut)
IsOther flaw size (Holds x n s) = (n ≡ size) × (flaw ≡ Cut)

-- there are bytes behind these with which another front stands there than one with this flaw
pub record IsUndecided {S : Type 0} (front : S → List ℕ → Front S) (s : S) (held : List ℕ) (flaw : Flaw) : Type 0 where
  pub more : List ℕ
  pub bytes : IsBytes more
  pub other : IsOther flaw (length (held ++ more)) (front s (held ++ more))

-- where no bytes are, nothing is cut off
abbrev pub IsNotCut : {S : Type 0} → Front S → Type 0
IsNotCut Nothing = Unit {0}
IsNotCut (Short f) = f.flaw ≡ Cut → ⊥
IsNotCut (Bad f) = ⊥
IsNotCut (Over n s) = ⊥
IsNotCut (Holds x n s) = ⊥

-- What stands at a front stands whatever follows, but where nothing is there or more decides; and of the bytes of a
-- record all are there. A record takes at least 16. A fault lies within what is there. A reader whose buffer has so
-- many bytes can then hold whatever is not decided yet. Where more decides, there are bytes that decide otherwise than
-- the end.
pub record IsFormat {S : Type 0} (most : ℕ) (front : S → List ℕ → Front S) : Type 0 where
  pub bad : (s : S) (held more : List ℕ) (f : FormatFault) → front s held ≡ Bad f → front s (held ++ more) ≡ Bad f
  pub over : (s : S) (held more : List ℕ) (n : ℕ) (t : S) → front s held ≡ Over n t → front s (held ++ more) ≡ Over n t
  pub holds : (s : S) (held more : List ℕ) (x : Record) (n : ℕ) (t : S) → front s held ≡ Holds x n t
      → front s (held ++ more) ≡ Holds x n t
  pub over_some : (s : S) (held : List ℕ) (n : ℕ) (t : S) → front s held ≡ Over n t → 0 < n
  pub holds_some : (s : S) (held : List ℕ) (x : Record) (n : ℕ) (t : S) → front s held ≡ Holds x n t → 16 ≤ n
  pub there : (s : S) (held : List ℕ) (x : Record) (n : ℕ) (t : S) → front s held ≡ Holds x n t → n ≤ length held
  pub nothing : (s : S) (held : List ℕ) → front s held ≡ Nothing → length held < most
  pub short : (s : S) (held : List ℕ) (f : FormatFault) → front s held ≡ Short f → length held < most
  pub bad_there : (s : S) (held : List ℕ) (f : FormatFault) → front s held ≡ Bad f → f.at ≤ length held
  pub short_there : (s : S) (held : List ℕ) (f : FormatFault) → front s held ≡ Short f → f.at ≤ length held
  pub open_end : (s : S) (held : List ℕ) (f : FormatFault) → front s held ≡ Short f → IsUndecided front s held f.flaw
  pub blank : (s : S) → IsNotCut (front s [])

-- ---- the machine
-- whether it goes on, and in which state of the format, or has failed
pub data Stage (S : Type 0) : Type 0 where
  At : S → Stage S
  Failed : FormatFault → Stage S

-- How far a reader has come: what it reads next and where that begins; the bytes that were fed and are still held; how
-- many of those that come first belong to what was read before, and where that began; and how many more bytes have
-- room.
pub record Reading (S : Type 0) : Type 0 where
  pub stage : Stage S
  pub place : ℕ
  pub held : List ℕ
  pub owing : ℕ
  pub begun : ℕ
  pub room : ℕ

-- what a reader answers: a record, that more bytes decide, that there is no further record, or a fault
pub data Answer : Type 0 where
  Found : Record → Answer
  More : Answer
  End : Answer
  Faulty : FormatFault → Answer

-- what a call answers, and what it leaves
pub record Step (S : Type 0) : Type 0 where
  pub answer : Answer
  pub left : Reading S

-- one look at the front: an answer, or what is no record is passed over
pub data Turn (S : Type 0) : Type 0 where
  Answers : Answer → Reading S → Turn S
  GoesOn : Reading S → Turn S

-- a reader that was fed nothing, whose buffer has so many bytes
abbrev pub unread : {S : Type 0} → ℕ → S → Reading S
unread most s = record { stage = At s; place = 0; held = []; owing = 0; begun = 0; room = most }

-- how many bytes of a piece have room
abbrev pub fitting : {S : Type 0} → List ℕ → Reading S → ℕ
fitting piece r = min (length piece) r.room

-- the reader was fed the first n bytes of a piece
abbrev pub fed : {S : Type 0} → ℕ → List ℕ → Reading S → Reading S
fed n piece r = record r { held = r.held ++ take n piece; room = r.room - n }

-- what is read has given back its room
abbrev pub roomy : {S : Type 0} → ℕ → Reading S → Reading S
roomy most r = record r { room = most - length r.held }

-- the reader has failed
abbrev pub failing : {S : Type 0} → FormatFault → Reading S → Reading S
failing f r = record r { stage = Failed f }

-- what was read before is gone, as far as it is held
abbrev pub gone : {S : Type 0} → Reading S → Reading S
gone r = record r { held = drop r.owing r.held; owing = r.owing - length r.held }

-- so many bytes at the front were read
abbrev pub over : {S : Type 0} → ℕ → S → Reading S → Reading S
over n s r = record r { stage = At s; place = behind r.place n; owing = n; begun = r.place }

-- where the file ends, a fault; else more is needed
abbrev pub at_last : {S : Type 0} → ℕ → Bool → FormatFault → Reading S → Turn S
at_last most true f r = Answers (Faulty f) (failing f r)
at_last most false f r = Answers More (roomy most r)

abbrev pub at_nothing : {S : Type 0} → ℕ → Bool → Reading S → Turn S
at_nothing most true r = Answers End r
at_nothing most false r = Answers More (roomy most r)

-- the same, where this is the fault if there is one
abbrev pub at_front_end : {S : Type 0} → ℕ → Bool → Option FormatFault → Reading S → Turn S
at_front_end most ended None r = at_nothing most ended r
at_front_end most ended (Some f) r = at_last most ended f r

-- where this stands at the front
abbrev pub turn_at : {S : Type 0} → ℕ → Bool → Front S → Reading S → Turn S
turn_at most ended Nothing r = at_nothing most ended r
turn_at most ended (Short f) r = at_last most ended (at_place r.place f) r
turn_at most ended (Bad f) r = Answers (Faulty (at_place r.place f)) (failing (at_place r.place f) r)
turn_at most ended (Over n s) r = GoesOn (over n s r)
turn_at most ended (Holds x n s) r = Answers (Found x) (over n s r)

-- first what was read before has to be gone
abbrev pub turn_in : {S : Type 0} → ℕ → (S → List ℕ → Front S) → Bool → S → Reading S → Turn S
turn_in most front ended s r =
    if nat_lt 0 r.owing then at_last most ended (fault Cut r.begun) r else turn_at most ended (front s r.held) r

abbrev pub turn_of : {S : Type 0} → ℕ → (S → List ℕ → Front S) → Bool → Stage S → Reading S → Turn S
turn_of most front ended (At s) r = turn_in most front ended s (gone r)
turn_of most front ended (Failed f) r = Answers (Faulty f) r

abbrev pub turn : {S : Type 0} → ℕ → (S → List ℕ → Front S) → Bool → Reading S → Turn S
turn most front ended r = turn_of most front ended r.stage r

-- what comes next, in at most so many turns; ended says that the whole file was fed
abbrev pub settled : {S : Type 0} → Turn S → (Reading S → Step S) → Step S
settled (Answers a r) rest = record { answer = a; left = r }
settled (GoesOn r) rest = rest r

unfoldable pub asked_within : {S : Type 0} → ℕ → (S → List ℕ → Front S) → ℕ → Bool → Reading S → Step S
asked_within most front zero ended r = record { answer = More; left = roomy most r }
asked_within most front (suc n) ended r = settled (turn most front ended r) (asked_within most front n ended)

-- What comes next. A turn that goes on passes over what is held, or the next one needs more; so there are two more than
-- bytes.
unfoldable pub asked : {S : Type 0} → ℕ → (S → List ℕ → Front S) → Bool → Reading S → Step S
asked most front ended r = asked_within most front (suc (suc (length r.held))) ended r

-- ---- what it still gives
-- the records behind so many bytes of what began at this place
abbrev pub reading_over : {S : Type 0} → (S → List ℕ → Front S) → S → ℕ → ℕ → ℕ → List ℕ → Capture
reading_over front s owing begun place left =
    if nat_lt (length left) owing then at_fault (fault Cut begun) else reading_from front s place (drop owing left)

-- what the reader still gives where this follows what it was fed
abbrev pub to_come_at : {S : Type 0} → (S → List ℕ → Front S) → Stage S → Reading S → List ℕ → Capture
to_come_at front (At s) r more = reading_over front s r.owing r.begun r.place (r.held ++ more)
to_come_at front (Failed f) r more = at_fault f

abbrev pub to_come : {S : Type 0} → (S → List ℕ → Front S) → Reading S → List ℕ → Capture
to_come front r more = to_come_at front r.stage r more

-- This answer comes first of what is to come, and that is left behind it; the end and a fault stay. A record that comes
-- begins at this place.
abbrev pub IsFirst : Answer → ℕ → Capture → Capture → Type 0
IsFirst (Found x) place left coming = coming ≡ before x place left
IsFirst More place left coming = coming ≡ left
IsFirst End place left coming = (coming ≡ at_end) × (left ≡ at_end)
IsFirst (Faulty f) place left coming = (coming ≡ at_fault f) × (left ≡ at_fault f)
