-- A capture on a shelf while it is read in pieces.
use Rattle.std.specs.Prelude.{⊤, ◌≡◌, ◌≢◌, ◌<◌, ◌≤◌, ◌+◌, ◌-◌, ◌*◌, ◌^◌, ℕ, true, false, List, [], ◌++◌, length, take, drop, Option, Some, None, IfSome, Ok, Err}
use Rattle.exb_model.specs.Input.{Record}
use Rattle.exb_capture.specs.Formats.{Capture, before}
use Rattle.exb_capture.specs.Captures.{capture_front, capture_of, capture_records}
use Rattle.exb_capture.specs.declared.fault.FormatFault.{FormatFault}
use Rattle.exb_model.specs.Frames.{IsBytes}
use Rattle.exb_capture.specs.declared.format.AnyFormat.TheVariants.{Unknown}
use Rattle.exb_capture.specs.Blocks.{most_held}
use Rattle.exb_capture.specs.ReaderMachine.{Stage, At, Failed, Reading, to_come, unread, fed}
use Rattle.exb_shelf.specs.declared.shelf.ShelfFault.{ShelfFault}
use Rattle.exb_shelf.specs.declared.shelf.ShelfFault.TheVariants as shelf
use Rattle.exb_shelf.specs.Shelf.{Id, IsReadingOf}
use Rattle.exb_capture.specs.declared.capture_file.CaptureFile.{CaptureFile}
use Rattle.exb_capture.specs.declared.format.RecordSpan.{RecordSpan}
use Rattle.exb_capture.specs.declared.capture_file.Halt.{Halt}
use Rattle.exb_capture.specs.declared.capture_file.Halt.TheVariants.{Memory, Failed, Broken, Large}

abbrev pub halted : ShelfFault → Halt
halted shelf.Failed = Failed
halted shelf.Memory = Memory

-- the id was given by `open`, and so many bytes were read through it
pub record IsAt (i : Id) (got : ℕ) : Type 0 where
  pub given : i.given ≡ true
  pub reads : i.reads ≡ true
  pub place : i.place ≡ got

-- only the place of this id has moved
pub record MovesOn (id : ℕ) (given ids : ℕ → Id) : Type 0 where
  pub others : (j : ℕ) → j ≢ id → ids j ≡ given j
  pub same : (name : List ℕ) → IsReadingOf name (given id) → IsReadingOf name (ids id)

-- so many bytes were read straight into a reader: where the files are told, the first of these, which come next in the
-- file
pub record HasFilled {S : Type 0} (tells : Type 0) (rest : List ℕ) (n : ℕ) (old new : Reading S) : Type 0 where
  pub piece : List ℕ
  pub there : n ≤ length piece
  pub has_fed : new ≡ fed n piece old
  pub told : tells → take n piece ≡ take n rest

-- nothing was read
pub record IsBegun (limit : ℕ) (f : CaptureFile) : Type 0 where
  pub reader : f.reader ≡ unread most_held Unknown
  pub next : f.next ≡ None
  pub got : f.got ≡ 0
  pub limit_is : f.limit ≡ limit
  pub ended : f.ended ≡ false

-- a record that was looked at is held, and is within its limits
pub record IsHeldIn (owing : ℕ) (held : List ℕ) (s : RecordSpan) : Type 0 where
  pub there : s.from + s.bytes ≤ length held
  pub in_time : s.moment < 2 ^ 32 * 1_000_000_000
  pub short : s.bytes ≤ 262_144
  pub whole : owing ≤ length held

-- a fault that was met lies within so many bytes
abbrev pub FailsBy : {S : Type 0} → ℕ → Stage S → Type 0
FailsBy most (At s) = Unit {0}
FailsBy most (Failed fault) = fault.at ≤ most

-- No more was read than may be, and what the reader holds is of what was read; so are the place where what was read
-- last begins and that of a fault.
pub record IsSound (f : CaptureFile) : Type 0 where
  pub most : f.got ≤ f.limit
  pub small : f.limit < 2 ^ 64
  pub fits : f.reader.place + length f.reader.held ≤ f.got + f.reader.owing
  pub seen : IfSome f.next (IsHeldIn f.reader.owing f.reader.held)
  pub begun : f.reader.begun ≤ f.got
  pub fails : FailsBy f.got f.reader.stage

-- it is the same file, read up to the same limit
pub record IsSameFile (old new : CaptureFile) : Type 0 where
  pub id : new.id ≡ old.id
  pub limit_is : new.limit ≡ old.limit

-- the record that was looked at, of what the reader holds
abbrev pub seen_in : Option RecordSpan → List ℕ → Option Record
seen_in None held = None
seen_in (Some s) held = Some (record { time = s.moment; bytes = take s.bytes (drop s.from held) })

-- the record that comes next, where it was looked at
abbrev pub next_of : CaptureFile → Option Record
next_of f = seen_in f.next f.reader.held

-- with the record that comes next and begins at this place
abbrev pub with_next : Option Record → ℕ → Capture → Capture
with_next None place rest = rest
with_next (Some x) place rest = before x place rest

-- what the file still gives, where this follows what was read of it
abbrev pub coming : CaptureFile → List ℕ → Capture
coming f more = with_next (next_of f) f.reader.begun (to_come capture_front f.reader more)

-- the bytes that a record which was looked at takes at least
abbrev pub one_next : Option RecordSpan → ℕ
one_next None = 0
one_next (Some s) = 16

-- how many bytes the reader holds and hasn't gone past, and a record that was looked at takes
abbrev pub left_held : CaptureFile → ℕ
left_held f = (length f.reader.held - f.reader.owing) + one_next f.next

-- how much of the limit is left, with what the reader holds
abbrev pub left_to_read : CaptureFile → ℕ
left_to_read f = (f.limit - f.got) + left_held f

-- these records, which begin at these places, and then what follows
abbrev pub after : List Record → List ℕ → Capture → Capture
after xs places rest = record { records = xs ++ rest.records; places = places ++ rest.places; fault = rest.fault }

-- Of a file of these bytes so many were read, in which these records stand. Whatever follows what was read, the records
-- are these and then what the file still gives.
pub record HasRead (bytes : List ℕ) (xs : List Record) (f : CaptureFile) : Type 0 where
  pub within : f.got ≤ length bytes
  pub few : length xs + left_held f ≤ f.got
  pub ended : f.ended ≡ true → f.got ≡ length bytes
  pub places : List ℕ
  pub paired : length places ≡ length xs
  pub whole : (more : List ℕ) → (f.ended ≡ true → more ≡ []) → capture_of (take f.got bytes ++ more)
      ≡ after xs places (coming f more)

-- whatever follows these bytes, this is the fault of them all
abbrev pub Stands : List ℕ → FormatFault → Type 0
Stands front fault = (more : List ℕ) → IsBytes more → capture_records (front ++ more) ≡ Err fault

-- what comes next is a record of this time
abbrev pub ComesNext : ℕ → CaptureFile → Type 0
ComesNext moment f = (x : Record) × (next_of f ≡ Some x) × (x.time ≡ moment)

-- the whole file was read, within the limit, and these are its records
pub record IsWhole (bytes : List ℕ) (xs : List Record) (f : CaptureFile) : Type 0 where
  pub records : capture_records bytes ≡ Ok xs
  pub size : f.got ≡ length bytes
  pub small : length bytes ≤ f.limit

-- why a file of these bytes is not read on: its first fault, which within the limit stands whatever follows; or that it
-- is longer, and no fault stands
abbrev pub HaltsBy : List ℕ → ℕ → Halt → Type 0
HaltsBy bytes limit Memory = ⊤
HaltsBy bytes limit Failed = ⊤
HaltsBy bytes limit (Broken fault) = (capture_records bytes ≡ Err fault)
    × (limit < length bytes → Stands (take limit bytes) fault)
HaltsBy bytes limit Large = (limit < length bytes) × ((fault : FormatFault) → Stands (take limit bytes) fault → ⊥)
