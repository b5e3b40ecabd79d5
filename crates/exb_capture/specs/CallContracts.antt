-- What each call promises that reads a capture on a shelf, clause by clause: of a shelf that told its files or not,
-- with these files, ids and counts before the call and those after it.
use Rattle.std.specs.Prelude.{◌≡◌, ◌≢◌, ◌<◌, ◌≤◌, ◌+◌, ◌*◌, ◌^◌, ◌⊎◌, ℕ, true, false, List, [], ◌∷◌, ◌++◌, length, drop, Option, Some, None, Result, IfOk, OnOk, IfErr, OnErr, IsErrOf, IfSome, IfNone, IsSome}
use Rattle.exb_model.specs.Input.{Record}
use Rattle.exb_shelf.specs.declared.shelf.OpenFault.{OpenFault}
use Rattle.exb_shelf.specs.declared.shelf.OpenFault.TheVariants as opening
use Rattle.exb_shelf.specs.declared.shelf.ShelfFault.{ShelfFault}
use Rattle.exb_shelf.specs.declared.shelf.ShelfFault.TheVariants as shelf
use Rattle.exb_shelf.specs.Files.{Files, SameFiles, bytes_of}
use Rattle.exb_shelf.specs.FaultCounts.{after_open, after_read}
use Rattle.exb_shelf.specs.Shelf.{Faults, Id, IsReadingOf, NoFewer, Opens, Rose, moved, reading}
use Rattle.exb_capture.specs.declared.fault.FormatFault.{FormatFault}
use Rattle.exb_capture.specs.declared.capture_file.CaptureFile.{CaptureFile}
use Rattle.exb_capture.specs.declared.capture_file.Halt.{Halt}
use Rattle.exb_capture.specs.declared.capture_file.Halt.TheVariants as stop
use Rattle.exb_capture.specs.declared.scans.Scanned.{Scanned}
use Rattle.exb_capture.specs.declared.scans.ScanFault.{ScanFault}
use Rattle.exb_capture.specs.declared.scans.ScanFault.TheVariants as check
use Rattle.exb_capture.specs.declared.replay.Replay.{Replay}
use Rattle.exb_capture.specs.declared.replay.ReplayFault.{ReplayFault}
use Rattle.exb_capture.specs.declared.replay.ReplayFault.TheVariants as again
use Rattle.exb_capture.specs.FaultCounts.{after_fault, after_looking, after_opening, after_replay, after_scan}
use Rattle.exb_capture.specs.ReaderMachine.{Reading}
use Rattle.exb_capture.specs.CaptureFiles.{ComesNext, HaltsBy, HasFilled, HasRead, IsAt, IsBegun, IsSameFile, IsSound, IsWhole, MovesOn, left_to_read, next_of}
use Rattle.exb_capture.specs.Replays.{ComesAt, Disagrees, HasGiven, IsAsBefore, IsKept, IsPlayed, IsSameReplay}
use Rattle.exb_capture.specs.Scans.{IsScan, IsScanned}

-- it reads the next bytes of a file straight into a reader
pub record Fills {S : Type 0} (tells : Type 0) (were are : Files) (had has : ℕ → Id) (f g : Faults) (i most : ℕ)
    (old new : Reading S) (result : Result ℕ ShelfFault) : Type 0 where
  pub bound : IfOk result (λ n. n ≤ most)
  pub filled : IfOk result (λ n. HasFilled tells (drop (had i).place (bytes_of (were (had i).name))) n old new)
  pub end : tells → 0 < most → IfOk result (λ n. n ≡ 0 → drop (had i).place (bytes_of (were (had i).name)) ≡ [])
  pub same : OnErr result (new ≡ old)
  pub id : IfOk result (λ n. has i ≡ moved (had i) n)
  pub others : (j : ℕ) → j ≢ i → has j ≡ had j
  pub id_err : OnErr result (has i ≡ had i)
  pub files : SameFiles were are
  pub counts : g ≡ after_read result f
  pub faults : NoFewer f g
  pub failed : IsErrOf result shelf.Failed → Rose f.reads g.reads

-- it opens a capture, of which at most so many bytes are read
pub record OpensCapture (tells : Type 0) (were are : Files) (had has : ℕ → Id) (f g : Faults) (name : List ℕ) (most : ℕ)
    (result : Result CaptureFile OpenFault) : Type 0 where
  pub begun : IfOk result (IsBegun most)
  pub sound : IfOk result IsSound
  pub read : tells → IfOk result (HasRead (bytes_of (were name)) [])
  pub there : tells → OnOk result (IsSome (were name))
  pub not_there : tells → IsErrOf result opening.Missing → were name ≡ None
  -- What is opened, and what stays.
  pub id : IfOk result (λ file. has file.id ≡ reading name 0)
  pub fresh : IfOk result (λ file. (had file.id).given ≡ false)
  pub others : IfOk result (λ file. (j : ℕ) → j ≢ file.id → has j ≡ had j)
  pub opened : Opens (IsReadingOf name) had has
  pub files : SameFiles were are
  pub counts : g ≡ after_open result f
  pub faults : NoFewer f g
  pub missing : IsErrOf result opening.Missing → Rose f.missing g.missing
  pub failed : IsErrOf result opening.Failed → Rose f.reads g.reads

-- it reads the next bytes of a file, or its end
pub record ReadsOn {X : Type 0} (tells : Type 0) (were are : Files) (had has : ℕ → Id) (f g : Faults)
    (old new : CaptureFile) (result : Result X Halt) : Type 0 where
  pub sound : IsSound new
  pub unseen : OnOk result (new.next ≡ None)
  pub same : IsSameFile old new
  pub at : OnOk result (IsAt (has new.id) new.got)
  pub rises : OnOk result (old.got ≤ new.got)
  pub on : OnOk result ((new.ended ≡ true) ⊎ (old.got < new.got))
  pub left : left_to_read new ≤ left_to_read old
  pub read : tells → OnOk result ((xs : List Record) → HasRead (bytes_of (were (had old.id).name)) xs old
      → HasRead (bytes_of (were (had old.id).name)) xs new)
  pub large : tells → IsErrOf result stop.Large → (xs : List Record)
      → HasRead (bytes_of (were (had old.id).name)) xs old
      → (old.got ≡ old.limit) × (old.limit < length (bytes_of (were (had old.id).name)))
  pub unbroken : (fault : FormatFault) → IsErrOf result (stop.Broken fault) → ⊥
  pub moves : MovesOn old.id had has
  pub files : SameFiles were are
  pub counts : g ≡ after_looking result f
  pub faults : NoFewer f g
  pub failed : IsErrOf result stop.Failed → Rose f.reads g.reads

-- it reads on until it is known what comes next
pub record LooksAhead (tells : Type 0) (were are : Files) (had has : ℕ → Id) (f g : Faults) (old new : CaptureFile)
    (result : Result (Option ℕ) Halt) : Type 0 where
  pub sound : IsSound new
  pub same : IsSameFile old new
  pub at : OnOk result (IsAt (has new.id) new.got)
  pub left : left_to_read new ≤ left_to_read old
  pub found : IfOk result (λ next. IfSome next (λ moment. ComesNext moment new))
  pub moment : IfOk result (λ next. IfSome next (λ moment. moment < 2 ^ 32 * 1_000_000_000))
  -- What it says of the file, of which the records xs were taken.
  pub read : tells → OnOk result ((xs : List Record) → HasRead (bytes_of (were (had old.id).name)) xs old
      → HasRead (bytes_of (were (had old.id).name)) xs new)
  pub end : tells → IfOk result (λ next. IfNone next ((xs : List Record)
      → HasRead (bytes_of (were (had old.id).name)) xs old
      → IsWhole (bytes_of (were (had old.id).name)) xs new))
  pub halts : tells → IfErr result (λ halt. (xs : List Record) → HasRead (bytes_of (were (had old.id).name)) xs old
      → HaltsBy (bytes_of (were (had old.id).name)) old.limit halt)
  -- Whatever the files hold, a fault lies within what was read.
  pub place : (fault : FormatFault) → IsErrOf result (stop.Broken fault) → fault.at ≤ new.got
  pub moves : MovesOn old.id had has
  pub files : SameFiles were are
  pub counts : g ≡ after_looking result f
  pub faults : NoFewer f g
  pub failed : IsErrOf result stop.Failed → Rose f.reads g.reads

-- it takes the record that comes next
pub record Takes {E : Type 0} (old new : CaptureFile) (result : Result (List ℕ) E) : Type 0 where
  pub sound : IsSound new
  pub same : IsSameFile old new
  pub got : new.got ≡ old.got
  pub left : left_to_read new + 16 ≤ left_to_read old
  pub bytes : (x : Record) → next_of old ≡ Some x → IfOk result (λ bytes. bytes ≡ x.bytes)
  pub short : IfOk result (λ bytes. length bytes ≤ 262_144)
  pub read : (all : List ℕ) (xs : List Record) (x : Record) → next_of old ≡ Some x
      → HasRead all xs old → HasRead all (xs ++ x ∷ []) new

-- it goes past the record that comes next
pub record Passes (old new : CaptureFile) : Type 0 where
  pub sound : IsSound new
  pub same : IsSameFile old new
  pub got : new.got ≡ old.got
  pub left : left_to_read new < left_to_read old
  pub read : (bytes : List ℕ) (xs : List Record) (x : Record) → next_of old ≡ Some x
      → HasRead bytes xs old → HasRead bytes (xs ++ x ∷ []) new

-- it goes through a capture that was opened
pub record ScansOn (tells : Type 0) (were are : Files) (had has : ℕ → Id) (f g : Faults) (old : CaptureFile)
    (result : Result Scanned Halt) : Type 0 where
  pub whole : tells → IfOk result (λ scanned. HasRead (bytes_of (were (had old.id).name)) [] old
      → IsScanned old.limit (bytes_of (were (had old.id).name)) scanned)
  pub halts : tells → IfErr result (λ halt. HasRead (bytes_of (were (had old.id).name)) [] old
      → HaltsBy (bytes_of (were (had old.id).name)) old.limit halt)
  pub bytes : IfOk result (λ scanned. scanned.bytes ≤ old.limit)
  pub first : IfOk result (λ scanned. IfSome scanned.first (λ first. first < 2 ^ 32 * 1_000_000_000))
  pub moves : MovesOn old.id had has
  pub files : SameFiles were are
  pub counts : g ≡ after_looking result f
  pub faults : NoFewer f g
  pub failed : IsErrOf result stop.Failed → Rose f.reads g.reads

-- it checks a capture from front to end
pub record IsChecked (tells : Type 0) (were are : Files) (had has : ℕ → Id) (f g : Faults) (name : List ℕ) (most : ℕ)
    (result : Result Scanned ScanFault) : Type 0 where
  pub says : tells → IsScan most (were name) result
  pub bytes : IfOk result (λ scanned. scanned.bytes ≤ most)
  pub first : IfOk result (λ scanned. IfSome scanned.first (λ first. first < 2 ^ 32 * 1_000_000_000))
  -- What is opened, and what stays.
  pub id : OnOk result ((id : ℕ) × ((had id).given ≡ false) × IsReadingOf name (has id))
  pub opened : Opens (IsReadingOf name) had has
  pub files : SameFiles were are
  pub counts : g ≡ after_scan result f
  pub faults : NoFewer f g
  pub missing : IsErrOf result check.Missing → Rose f.missing g.missing
  pub failed : IsErrOf result check.Read → Rose f.reads g.reads

-- it opens a capture again of which this was told
pub record OpensAgain (tells : Type 0) (were are : Files) (had has : ℕ → Id) (f g : Faults) (name : List ℕ)
    (this : Scanned) (result : Result Replay ReplayFault) : Type 0 where
  pub told : IfOk result (λ replay. (replay.told ≡ this) × (replay.least ≡ 0))
  pub kept : IfOk result IsKept
  pub begun : IfOk result (λ replay. IsBegun (this.bytes + 1) replay.file)
  pub given : tells → IfOk result (HasGiven (bytes_of (were name)) [])
  pub there : tells → OnOk result (IsSome (were name))
  pub changed : (at : ℕ) → IsErrOf result (again.Changed at) → (at ≡ 0)
      × (Rose f.missing g.missing)
      × (tells → were name ≡ None)
  -- What is opened, and what stays.
  pub id : IfOk result (λ replay. has replay.file.id ≡ reading name 0)
  pub new : IfOk result (λ replay. (had replay.file.id).given ≡ false)
  pub others : IfOk result (λ replay. (j : ℕ) → j ≢ replay.file.id → has j ≡ had j)
  pub opened : Opens (IsReadingOf name) had has
  pub files : SameFiles were are
  pub counts : g ≡ after_opening result f
  pub faults : NoFewer f g
  pub failed : IsErrOf result again.Read → Rose f.reads g.reads

-- it says at which byte a capture is another one, whose first record comes early
pub record StopsEarly (tells : Type 0) (were are : Files) (had has : ℕ → Id) (f g : Faults) (old new : Replay)
    (result : ReplayFault) : Type 0 where
  pub kept : IsKept new
  pub same : IsSameReplay old new
  pub changed : tells → (at : ℕ) → result ≡ again.Changed at → (xs : List Record)
      → HasGiven (bytes_of (were (had old.file.id).name)) xs old
      → Disagrees old.told (bytes_of (were (had old.file.id).name)) at
  pub place : (at : ℕ) → result ≡ again.Changed at → at ≤ old.told.bytes + 1
  pub before : IsAsBefore old new
  pub moves : MovesOn old.file.id had has
  pub files : SameFiles were are
  pub counts : g ≡ after_fault result f
  pub faults : NoFewer f g
  pub failed : result ≡ again.Read → Rose f.reads g.reads

-- it reads on until it is known what comes next, and at which moment
pub record LooksAgain (tells : Type 0) (were are : Files) (had has : ℕ → Id) (f g : Faults) (old new : Replay)
    (result : Result (Option ℕ) ReplayFault) : Type 0 where
  pub kept : IsKept new
  pub same : IsSameReplay old new
  pub before : IsAsBefore old new
  pub at : OnOk result (IsAt (has new.file.id) new.file.got)
  pub left : OnOk result (left_to_read new.file ≤ left_to_read old.file)
  pub found : IfOk result (λ next. IfSome next (λ moment. ComesAt moment new))
  -- What it says of the file, of which the records xs were given.
  pub given : tells → OnOk result ((xs : List Record) → HasGiven (bytes_of (were (had old.file.id).name)) xs old
      → HasGiven (bytes_of (were (had old.file.id).name)) xs new)
  pub end : tells → IfOk result (λ next. IfNone next ((xs : List Record)
      → HasGiven (bytes_of (were (had old.file.id).name)) xs old
      → IsPlayed old.told (bytes_of (were (had old.file.id).name)) xs))
  pub changed : tells → (at : ℕ) → IsErrOf result (again.Changed at) → (xs : List Record)
      → HasGiven (bytes_of (were (had old.file.id).name)) xs old
      → Disagrees old.told (bytes_of (were (had old.file.id).name)) at
  -- Whatever the files hold, it has changed within the bytes that were told and one more.
  pub place : (at : ℕ) → IsErrOf result (again.Changed at) → at ≤ old.told.bytes + 1
  pub moves : MovesOn old.file.id had has
  pub files : SameFiles were are
  pub counts : g ≡ after_replay result f
  pub faults : NoFewer f g
  pub failed : IsErrOf result again.Read → Rose f.reads g.reads

-- it takes the record that comes next, of which the moment is known
pub record TakesAgain {E : Type 0} (moment : ℕ) (old new : Replay) (result : Result (List ℕ) E) : Type 0 where
  pub kept : IsKept new
  pub same : IsSameReplay old new
  pub got : new.file.got ≡ old.file.got
  pub left : left_to_read new.file + 16 ≤ left_to_read old.file
  pub least : OnOk result (new.least ≡ moment)
  pub bytes : (x : Record) → next_of old.file ≡ Some x → IfOk result (λ bytes. bytes ≡ x.bytes)
  pub short : IfOk result (λ bytes. length bytes ≤ 262_144)
  pub given : OnOk result ((all : List ℕ) (xs : List Record) (x : Record) → next_of old.file ≡ Some x
      → HasGiven all xs old → HasGiven all (xs ++ x ∷ []) new)
