-- Files of captured frames: which frames they give, and what is the first fault of several.
use Rattle.std.specs.Prelude.{◌≡◌, ◌<◌, ◌≤◌, ◌-◌, ◌+◌, ◌⊎◌, ℕ, List, [], ◌∷◌, ◌++◌, length, take, map, slice_get, Option, Some, None, Result, Ok, Err, IsErrOf}
use Rattle.exb_model.specs.Frames.{IsBytes}
use Rattle.exb_model.specs.Input.{Record}
use Rattle.exb_capture.specs.declared.fault.FormatFault.{FormatFault}
use Rattle.exb_capture.specs.Captures.{capture_records}
use Rattle.exb_capture.specs.Classic.{pcap_records}
use Rattle.exb_shelf.specs.Files.{Files, bytes_of}
use Rattle.exb_shelf.specs.FaultCounts.{missing_more, reads_more}
use Rattle.exb_shelf.specs.Shelf.{Id, Faults, IsReadingOf, NoFewer, Rose}
use Rattle.exb_trace_spec.specs.Traversals.{Each}
use Rattle.exb_audit.specs.declared.frames.PortFrames.{PortFrames}
use Rattle.exb_audit_files.specs.declared.port_files.Grammar.{Grammar}
use Rattle.exb_audit_files.specs.declared.port_files.Grammar.TheVariants.{Either, Classic}
use Rattle.exb_audit_files.specs.declared.port_files.PortFile.{PortFile}
use Rattle.exb_audit_files.specs.declared.port_files.FramesFault.{FramesFault}
use Rattle.exb_audit_files.specs.declared.port_files.FramesFault.TheVariants.{Memory, Read, Missing, Broken, Large}

-- how the bytes of a file are read: as records, or they have a first fault
abbrev pub Reading : Type 0
Reading = List ℕ → Result (List Record) FormatFault

abbrev pub records_by : Grammar → Reading
records_by Either = capture_records
records_by Classic = pcap_records

-- ---- files that are read
-- these are the frames of the records of a file
pub record HoldsRecords (read : Reading) (bytes : List ℕ) (frames : List (List ℕ)) : Type 0 where
  pub records : List Record
  pub is : read bytes ≡ Ok records
  pub are : map (λ (r : Record). r.bytes) records ≡ frames

-- these are a port's frames, which its file holds
pub record IsReadFrom (read : Reading) (file : Files) (x : PortFile) (f : PortFrames) : Type 0 where
  pub port : f.port ≡ x.port
  pub bytes : List ℕ
  pub there : file x.name ≡ Some bytes
  pub holds : HoldsRecords read bytes f.frames.items

-- so one after the other
abbrev pub EachIsRead : Reading → Files → List PortFile → List PortFrames → Type 0
EachIsRead read file [] [] = Unit {0}
EachIsRead read file (x ∷ xs) (f ∷ fs) = IsReadFrom read file x f × EachIsRead read file xs fs
EachIsRead read file [] (f ∷ fs) = ⊥
EachIsRead read file (x ∷ xs) [] = ⊥

-- how many bytes the files have together
abbrev pub total : Files → List PortFile → ℕ
total file [] = 0
total file (x ∷ xs) = length (bytes_of (file x.name)) + total file xs

-- all files are read, and together they are within the limit
pub record AreRead (read : Reading) (file : Files) (limit : ℕ) (xs : List PortFile) (fs : List PortFrames) : Type 0
  where
    pub each : EachIsRead read file xs fs
    pub within : total file xs ≤ limit

-- ---- the first fault
-- a file is there, and has no fault
pub record IsGood (read : Reading) (file : Files) (x : PortFile) : Type 0 where
  pub bytes : List ℕ
  pub there : file x.name ≡ Some bytes
  pub records : List Record
  pub is : read bytes ≡ Ok records

-- whatever follows these bytes, this is the fault of them all
abbrev pub StandsBy : Reading → List ℕ → FormatFault → Type 0
StandsBy read front fault = (more : List ℕ) → IsBytes more → read (front ++ more) ≡ Err fault

-- What is wrong with a file of which so many bytes may be read: it is not there; its first fault, which within these
-- bytes stands whatever follows; or that it is longer, and no fault stands.
abbrev pub IsFlaw : Reading → ℕ → PortFile → Option (List ℕ) → FramesFault → Type 0
IsFlaw read left x None fault = fault ≡ Missing x.name
IsFlaw read left x (Some bytes) (Broken port fault) = (port ≡ x.port) × (read bytes ≡ Err fault)
    × (left < length bytes → StandsBy read (take left bytes) fault)
IsFlaw read left x (Some bytes) Large = (left < length bytes)
    × ((fault : FormatFault) → StandsBy read (take left bytes) fault → ⊥)
IsFlaw read left x (Some bytes) _ = ⊥

-- the files before one are good and together within the limit, and this is wrong with that one, of which so many bytes
-- may be read as are left
pub record IsFirstFault (read : Reading) (file : Files) (limit : ℕ) (files : List PortFile) (fault : FramesFault) : Type
    0 where
  pub before : List PortFile
  pub one : PortFile
  pub after : List PortFile
  pub is : files ≡ before ++ one ∷ after
  pub good : Each (IsGood read file) before
  pub within : total file before ≤ limit
  pub here : IsFlaw read (limit - total file before) one (file one.name) fault

-- the port of a fault is a port
abbrev pub IsOfPort : FramesFault → Type 0
IsOfPort (Broken port fault) = port < 4160
IsOfPort _ = Unit {0}

-- ---- the shelf
-- an id to read one of these files
pub record ReadsOneOf (files : List PortFile) (i : Id) : Type 0 where
  pub at : ℕ
  pub one : PortFile
  pub is : slice_get files at ≡ Some one
  pub reads : IsReadingOf one.name i

-- a fault of the shelf was counted once, and no other; memory may run out while the fault of a missing file is made
abbrev pub CountsFrame : FramesFault → Faults → Faults → Type 0
CountsFrame (Missing name) old new = new ≡ missing_more old
CountsFrame Read old new = new ≡ reads_more old
CountsFrame Memory old new = (new ≡ old) ⊎ (new ≡ missing_more old)
CountsFrame (Broken port fault) old new = new ≡ old
CountsFrame Large old new = new ≡ old

abbrev pub CountsFramesOnce : {X : Type 0} → Result X FramesFault → Faults → Faults → Type 0
CountsFramesOnce (Ok x) old new = new ≡ old
CountsFramesOnce (Err fault) old new = CountsFrame fault old new

-- no count has fallen, and a fault of the shelf came only where its count rose: once, and no other did
pub record CountsFrames {X : Type 0} (result : Result X FramesFault) (old new : Faults) : Type 0 where
  pub none_fell : NoFewer old new
  pub missing : (name : List ℕ) → result ≡ Err (Missing name) → Rose old.missing new.missing
  pub read : IsErrOf result Read → Rose old.reads new.reads
  pub once : CountsFramesOnce result old new
