-- What it is to check a capture from front to end.
use Rattle.std.specs.Prelude.{⊤, ◌≡◌, ◌≤◌, ◌<◌, ◌⊎◌, ℕ, List, [], ◌∷◌, length, take, Option, Some, None, Result, Ok, Err}
use Rattle.exb_model.specs.Input.{Record}
use Rattle.exb_capture.specs.Captures.{capture_records}
use Rattle.exb_capture.specs.declared.fault.FormatFault.{FormatFault as Broke}
use Rattle.exb_capture.specs.declared.scans.Scanned.{Scanned}
use Rattle.exb_capture.specs.declared.scans.ScanFault.{ScanFault}
use Rattle.exb_capture.specs.declared.scans.ScanFault.TheVariants.{Memory, Missing, Read, Fault, Large}
use Rattle.exb_capture.specs.declared.capture_file.CaptureFile.{CaptureFile}
use Rattle.exb_capture.specs.declared.capture_file.Halt.{Halt}
use Rattle.exb_capture.specs.declared.capture_file.Halt.TheVariants as halt
use Rattle.exb_capture.specs.CaptureFiles.{HasRead, Stands}

abbrev pub refused : ℕ → Halt → ScanFault
refused limit halt.Memory = Memory
refused limit halt.Failed = Read
refused limit (halt.Broken fault) = Fault fault
refused limit halt.Large = Large limit

-- the time of the first record, if there is one
abbrev pub first_time : List Record → Option ℕ
first_time [] = None
first_time (x ∷ xs) = Some x.time

-- the same, where this is the time of the first one so far or of one more
abbrev pub or_this : Option ℕ → ℕ → Option ℕ
or_this None time = Some time
or_this (Some first) time = Some first

-- what is told of a capture with these bytes and records
abbrev pub scanned_of : List ℕ → List Record → Scanned
scanned_of bytes records = record { bytes = length bytes; records = length records; first = first_time records }

-- A file of these bytes, which are no more than the limit, is one of the grammar, and this is told of it.
pub record IsScanned (limit : ℕ) (bytes : List ℕ) (s : Scanned) : Type 0 where
  pub small : length bytes ≤ limit
  pub records : List Record
  pub read : capture_records bytes ≡ Ok records
  pub tells : s ≡ scanned_of bytes records

-- What is answered of a file of these bytes: what is told of it, its first fault, or that it is too large. A fault
-- comes first where the bytes within the limit have it whatever follows them.
abbrev pub IsScanOf : ℕ → List ℕ → Result Scanned ScanFault → Type 0
IsScanOf limit bytes (Ok s) = IsScanned limit bytes s
IsScanOf limit bytes (Err (Fault fault)) = (capture_records bytes ≡ Err fault)
    × (limit < length bytes → Stands (take limit bytes) fault)
IsScanOf limit bytes (Err (Large most)) = (most ≡ limit) × (limit < length bytes)
    × ((fault : Broke) → Stands (take limit bytes) fault → ⊥)
IsScanOf limit bytes (Err Missing) = ⊥
IsScanOf limit bytes (Err Read) = ⊤
IsScanOf limit bytes (Err Memory) = ⊤

-- the same of a file that may be missing
abbrev pub IsScan : ℕ → Option (List ℕ) → Result Scanned ScanFault → Type 0
IsScan limit (Some bytes) result = IsScanOf limit bytes result
IsScan limit None result = (result ≡ Err Missing) ⊎ (result ≡ Err Read) ⊎ (result ≡ Err Memory)

-- an answer that says something of the file, and not that the shelf failed or memory ran out
abbrev pub IsOfFile : Result Scanned ScanFault → Type 0
IsOfFile (Ok s) = ⊤
IsOfFile (Err (Fault fault)) = ⊤
IsOfFile (Err (Large most)) = ⊤
IsOfFile (Err Missing) = ⊤
IsOfFile (Err Read) = ⊥
IsOfFile (Err Memory) = ⊥

-- of a file of these bytes some records were taken, and this was told of them
pub record HasCounted (bytes : List ℕ) (f : CaptureFile) (s : Scanned) : Type 0 where
  pub taken : List Record
  pub read : HasRead bytes taken f
  pub records : s.records ≡ length taken
  pub first : s.first ≡ first_time taken
