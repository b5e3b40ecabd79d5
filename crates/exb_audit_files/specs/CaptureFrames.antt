-- One file of frames.
use Rattle.std.specs.Prelude.{◌≡◌, ◌≤◌, ◌⊎◌, ℕ, List, [], ◌∷◌, length, Option, Some, None}
use Rattle.exb_capture.specs.declared.capture_file.Halt.{Halt}
use Rattle.exb_capture.specs.declared.capture_file.Halt.TheVariants as halt
use Rattle.exb_shelf.specs.declared.shelf.OpenFault.{OpenFault}
use Rattle.exb_shelf.specs.declared.shelf.OpenFault.TheVariants as opening
use Rattle.exb_shelf.specs.declared.shelf.ShelfFault.{ShelfFault}
use Rattle.exb_shelf.specs.declared.shelf.ShelfFault.TheVariants as shelf
use Rattle.exb_audit_files.specs.declared.captured_frames.CapturedFrames.{CapturedFrames}
use Rattle.exb_audit_files.specs.declared.port_files.FramesFault.{FramesFault}
use Rattle.exb_audit_files.specs.declared.port_files.FramesFault.TheVariants.{Memory, Read, Missing, Broken, Large}
use Rattle.exb_audit_files.specs.FrameFiles.{Reading, HoldsRecords}

-- the frames of a file of these bytes, which are no more than the limit
pub record IsTaken (read : Reading) (limit : ℕ) (bytes : List ℕ) (t : CapturedFrames) : Type 0 where
  pub small : length bytes ≤ limit
  pub size : t.bytes ≡ length bytes
  pub holds : HoldsRecords read bytes t.frames.items

-- the same of a file that is there
pub record IsTakenOf (read : Reading) (limit : ℕ) (file : Option (List ℕ)) (t : CapturedFrames) : Type 0 where
  pub bytes : List ℕ
  pub there : file ≡ Some bytes
  pub taken : IsTaken read limit bytes t

-- why a file of this name can't be opened
abbrev pub IsUnopened : List ℕ → OpenFault → FramesFault → Type 0
IsUnopened name opening.Missing fault = (fault ≡ Missing name) ⊎ (fault ≡ Memory)
IsUnopened name opening.Failed fault = fault ≡ Read
IsUnopened name opening.Memory fault = fault ≡ Memory

abbrev pub unread : ShelfFault → FramesFault
unread shelf.Failed = Read
unread shelf.Memory = Memory

-- why the file of this port isn't read on
abbrev pub halted : ℕ → Halt → FramesFault
halted port halt.Memory = Memory
halted port halt.Failed = Read
halted port (halt.Broken fault) = Broken port fault
halted port halt.Large = Large

-- a file is there, and begins with this byte, if it has one
abbrev pub BeginsWith : Option ℕ → Option (List ℕ) → Type 0
BeginsWith None file = file ≡ Some []
BeginsWith (Some first) file = (rest : List ℕ) × (file ≡ Some (first ∷ rest))
