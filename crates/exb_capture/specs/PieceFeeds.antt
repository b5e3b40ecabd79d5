-- A file that is fed in pieces, however it is cut: the calls that are made, and what is answered, over any format.
use Rattle.std.specs.Prelude.{◌≡◌, ◌<◌, ◌+◌, ◌↔◌, All, ℕ, zero, suc, Bool, true, false, List, [], ◌∷◌, ◌++◌, length, take, drop, map, Option, Some, None, Ok, Err}
use Rattle.exb_model.specs.Frames.{IsBytes}
use Rattle.exb_model.specs.Input.{Record}
use Rattle.exb_capture.specs.declared.fault.FormatFault.{FormatFault}
use Rattle.exb_capture.specs.Formats.{Front, reading_from, whole}
use Rattle.exb_capture.specs.ReaderMachine.{Reading, Answer, Found, More, End, Faulty, unread, fitting, fed, asked, to_come, IsFirst}

-- a call: the next n bytes that weren't taken yet are fed, or it is asked what comes next
pub data Call : Type 0 where
  Feed : ℕ → Call
  Ask : Bool → Call

-- a reader, and what it hasn't taken of the file
pub record Feeding (S : Type 0) : Type 0 where
  pub reader : Reading S
  pub rest : List ℕ

-- a new reader, and a whole file
abbrev pub begun : {S : Type 0} → ℕ → S → List ℕ → Feeding S
begun most s file = record { reader = unread most s; rest = file }

-- after a piece
abbrev pub after_piece : {S : Type 0} → List ℕ → Feeding S → Feeding S
after_piece piece f = record {
  reader = fed (fitting piece f.reader) piece f.reader;
  rest = drop (fitting piece f.reader) f.rest;
}

abbrev pub after_call : {S : Type 0} → ℕ → (S → List ℕ → Front S) → Call → Feeding S → Feeding S
after_call most front (Feed n) f = after_piece (take n f.rest) f
after_call most front (Ask ended) f = record f { reader = (asked most front ended f.reader).left }

unfoldable pub after_calls : {S : Type 0} → ℕ → (S → List ℕ → Front S) → List Call → Feeding S → Feeding S
after_calls most front [] f = f
after_calls most front (c ∷ cs) f = after_calls most front cs (after_call most front c f)

-- an answer other than More
abbrev pub but_more : Answer → List Answer
but_more (Found x) = Found x ∷ []
but_more More = []
but_more End = End ∷ []
but_more (Faulty fault) = Faulty fault ∷ []

abbrev pub answered : {S : Type 0} → ℕ → (S → List ℕ → Front S) → Call → Feeding S → List Answer
answered most front (Feed n) f = []
answered most front (Ask ended) f = but_more (asked most front ended f.reader).answer

-- all answers other than More, in their order
unfoldable pub answers : {S : Type 0} → ℕ → (S → List ℕ → Front S) → List Call → Feeding S → List Answer
answers most front [] f = []
answers most front (c ∷ cs) f = answered most front c f ++ answers most front cs (after_call most front c f)

-- the end is told only once the whole file was taken
abbrev pub MayCall : {S : Type 0} → Call → Feeding S → Type 0
MayCall (Feed n) f = Unit {0}
MayCall (Ask ended) f = ended ≡ true → f.rest ≡ []

unfoldable pub MayBeCalled : {S : Type 0} → ℕ → (S → List ℕ → Front S) → List Call → Feeding S → Type 0
MayBeCalled most front [] f = Unit {0}
MayBeCalled most front (c ∷ cs) f = MayCall c f × MayBeCalled most front cs (after_call most front c f)

-- the end wasn't told
abbrev pub IsOpen : Call → Type 0
IsOpen (Feed n) = Unit {0}
IsOpen (Ask ended) = ended ≡ false

-- n answers: these records in their order, then the end or the fault, again and again
unfoldable pub in_turn : ℕ → List Record → Option FormatFault → List Answer
in_turn zero records fault = []
in_turn (suc n) (x ∷ xs) fault = Found x ∷ in_turn n xs fault
in_turn (suc n) [] None = End ∷ in_turn n [] None
in_turn (suc n) [] (Some fault) = Faulty fault ∷ in_turn n [] (Some fault)

-- the first n answers of a reader of this file
abbrev pub first_answers : {S : Type 0} → (S → List ℕ → Front S) → S → ℕ → List ℕ → List Answer
first_answers front s n file = in_turn n (reading_from front s 0 file).records (reading_from front s 0 file).fault

-- a record or a fault
abbrev pub IsRecordOrFault : Answer → Type 0
IsRecordOrFault (Found x) = Unit {0}
IsRecordOrFault More = ⊥
IsRecordOrFault End = ⊥
IsRecordOrFault (Faulty fault) = Unit {0}

-- whatever follows what was taken, this is the next answer behind those that were given
abbrev pub Stands : {S : Type 0} → (S → List ℕ → Front S) → S → List ℕ → List Answer → Answer → Type 0
Stands front s taken given a = (more : List ℕ) → IsBytes more → first_answers front s (length given + 1) (taken ++ more)
    ≡ given ++ a ∷ []

-- what is answered in pieces is what is read of the whole file: the records in their order, then End or the first fault
abbrev pub PiecesAreRead : {S : Type 0} → ℕ → (S → List ℕ → Front S) → S → Type 0
PiecesAreRead most front s = (file : List ℕ) (calls : List Call) → MayBeCalled most front calls (begun most s file)
    → answers most front calls (begun most s file) ≡ first_answers front s
    (length (answers most front calls (begun most s file))) file

-- where it came to the end, the records that were answered are those of the grammar; where it came to a fault, that
-- fault is
abbrev pub PiecesGiveTheRecords : {S : Type 0} → ℕ → (S → List ℕ → Front S) → S → Type 0
PiecesGiveTheRecords most front s = (file : List ℕ) (calls : List Call)
    → MayBeCalled most front calls (begun most s file)
    → (records : List Record) (again : List Answer)
    → (answers most front calls (begun most s file) ≡ map Found records ++ End ∷ again
    → whole (reading_from front s 0 file) ≡ Ok records)
    × ((fault : FormatFault) → answers most front calls (begun most s file) ≡ map Found records ++ Faulty fault ∷ again
    → whole (reading_from front s 0 file) ≡ Err fault)

-- what a reader answers comes first of what it still gives, whatever follows what it was fed; a record begins where the
-- reader says
abbrev pub AnswersAreFirst : {S : Type 0} → ℕ → (S → List ℕ → Front S) → Type 0
AnswersAreFirst {S} most front = (ended : Bool) (r : Reading S) (more : List ℕ) → (ended ≡ true → more ≡ [])
    → IsFirst (asked most front ended r).answer (asked most front ended r).left.begun
    (to_come front (asked most front ended r).left more) (to_come front r more)

-- before the end is told, More is answered exactly where no record and no fault stands whatever follows
abbrev pub MoreIsOpen : {S : Type 0} → ℕ → (S → List ℕ → Front S) → S → Type 0
MoreIsOpen most front s = (file : List ℕ) (calls : List Call) → All IsOpen calls
    → (after_calls most front calls (begun most s file)).rest ≡ []
    → ((asked most front false (after_calls most front calls (begun most s file)).reader).answer ≡ More)
    ↔ ((a : Answer) → IsRecordOrFault a → Stands front s file (answers most front calls (begun most s file)) a → ⊥)

-- More is answered only before the end is told, and leaves room
abbrev pub MoreHasRoom : {S : Type 0} → ℕ → (S → List ℕ → Front S) → Type 0
MoreHasRoom {S} most front = (ended : Bool) (r : Reading S) → (asked most front ended r).answer ≡ More
    → (ended ≡ false) × (0 < (asked most front ended r).left.room)
