-- A capture that was checked and is read again.
use Rattle.std.specs.Prelude.{◌≡◌, ◌<◌, ◌≤◌, ◌+◌, ◌*◌, ◌^◌, ℕ, nat_lt, Bool, true, false, List, [], ◌∷◌, ◌++◌, length, max, Option, Some, None, Ok, Err}
use Rattle.exb_model.specs.Input.{Record}
use Rattle.exb_capture.specs.Captures.{capture_of, capture_records}
use Rattle.exb_capture.specs.declared.fault.FormatFault.{FormatFault}
use Rattle.exb_capture.specs.declared.scans.Scanned.{Scanned}
use Rattle.exb_capture.specs.declared.capture_file.Halt.{Halt}
use Rattle.exb_capture.specs.declared.capture_file.Halt.TheVariants as halt
use Rattle.exb_capture.specs.declared.replay.Replay.{Replay}
use Rattle.exb_capture.specs.declared.replay.ReplayFault.{ReplayFault}
use Rattle.exb_capture.specs.declared.replay.ReplayFault.TheVariants.{Memory, Read, Changed}
use Rattle.exb_capture.specs.CaptureFiles.{IsSound, IsSameFile, HasRead, next_of}
use Rattle.exb_capture.specs.Scans.{scanned_of}

-- ---- where it disagrees with what was told
-- a first record of this time comes, though none was told, or a later one
abbrev pub comes_early : Option ℕ → ℕ → Bool
comes_early None time = true
comes_early (Some first) time = nat_lt time first

-- why a capture of which so many bytes were told isn't read on
abbrev pub unread : ℕ → Halt → ReplayFault
unread bytes halt.Memory = Memory
unread bytes halt.Failed = Read
unread bytes (halt.Broken fault) = Changed fault.at
unread bytes halt.Large = Changed bytes

-- this record comes first in a file of these bytes, whatever stands behind it, and begins at this place
pub record BeginsWith (x : Record) (at : ℕ) (bytes : List ℕ) : Type 0 where
  pub others : List Record
  pub records : (capture_of bytes).records ≡ x ∷ others
  pub further : List ℕ
  pub places : (capture_of bytes).places ≡ at ∷ further

-- A file of these bytes, of which this was told, is another one at this byte: it breaks the grammar there, ends there
-- though more was told, goes on there though its end was told, or has a first record there that was not told or is
-- earlier than was told.
pub data Disagrees (told : Scanned) (bytes : List ℕ) (at : ℕ) : Type 0 where
  Breaks : (fault : FormatFault) → capture_records bytes ≡ Err fault → fault.at ≡ at → Disagrees told bytes at
  Ends : length bytes < told.bytes → at ≡ length bytes → Disagrees told bytes at
  GoesOn : told.bytes < length bytes → at ≡ told.bytes → Disagrees told bytes at
  ComesEarly : (x : Record) → BeginsWith x at bytes → comes_early told.first x.time ≡ true → Disagrees told bytes at

-- ---- what is kept
-- a first record was told, and this moment isn't before it
abbrev pub IsSince : Option ℕ → ℕ → Type 0
IsSince told moment = (first : ℕ) × (told ≡ Some first) × (first ≤ moment)

-- One byte more than was told may be read, and once a record was given, no other comes before what was told of the
-- first.
pub record IsKept (r : Replay) : Type 0 where
  pub sound : IsSound r.file
  pub limit : r.file.limit ≡ r.told.bytes + 1
  pub since : r.fresh ≡ false → IsSince r.told.first r.least
  pub in_time : r.least < 2 ^ 32 * 1_000_000_000

-- it is the same file, of which the same was told
pub record IsSameReplay (old new : Replay) : Type 0 where
  pub file : IsSameFile old.file new.file
  pub told : new.told ≡ old.told

-- nothing was given in between
pub record IsAsBefore (old new : Replay) : Type 0 where
  pub least : new.least ≡ old.least
  pub fresh : new.fresh ≡ old.fresh

-- What comes next is a record, and this is its moment: its time, or that of the record before it if that is greater. It
-- isn't before what was told of the first.
pub record ComesAt (moment : ℕ) (r : Replay) : Type 0 where
  pub next : Record
  pub found : next_of r.file ≡ Some next
  pub is : moment ≡ max r.least next.time
  pub since : IsSince r.told.first moment
  pub in_time : moment < 2 ^ 32 * 1_000_000_000

-- ---- what is told of the file
-- of a file of these bytes these records were given
pub record HasGiven (bytes : List ℕ) (xs : List Record) (r : Replay) : Type 0 where
  pub read : HasRead bytes xs r.file
  pub fresh : r.fresh ≡ true → xs ≡ []

-- the whole file was given, and it is as long as was told
pub record IsPlayed (told : Scanned) (bytes : List ℕ) (xs : List Record) : Type 0 where
  pub records : capture_records bytes ≡ Ok xs
  pub size : length bytes ≡ told.bytes

-- A file of these bytes is the one that was checked, and these records of it are still to come.
pub record IsReplaying (bytes : List ℕ) (left : List Record) (r : Replay) : Type 0 where
  pub given : List Record
  pub has : HasGiven bytes given r
  pub whole : capture_records bytes ≡ Ok (given ++ left)
  pub told : r.told ≡ scanned_of bytes (given ++ left)
