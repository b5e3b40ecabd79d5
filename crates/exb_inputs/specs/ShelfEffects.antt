-- What calls that read say of the shelf: what it counted, and what was opened.
use Rattle.std.specs.Prelude.{◌≡◌, ◌<◌, ◌+◌, ℕ, true, false, List, Some, Result, Err, IsErrOf}
use Rattle.exb_shelf.specs.Files.{Files, SameFiles}
use Rattle.exb_shelf.specs.Shelf.{Id, IsReadingOf, Faults, Opens, Rose, NoFewer}
use Rattle.exb_topology_tables.specs.declared.elements.Named.{Named}
use Rattle.exb_inputs.specs.declared.fault.Fault.{Fault}
use Rattle.exb_inputs.specs.declared.fault.Fault.TheVariants.{Capture, Missing, Read, Write}
use Rattle.exb_inputs.specs.declared.fault.InputFlaw.{InputFlaw}
use Rattle.exb_inputs.specs.CaptureChecks.{IsGoodNamed}
use Rattle.exb_inputs.specs.FaultCounts.{CountsOnce}
use Rattle.exb_inputs.specs.Inputs.{is_named, name_of}
use Rattle.exb_timeline.specs.CaptureMerges.{ReadsOn}

-- No count has fallen, and a fault of the shelf came only where its count rose. It was counted once, and no other was,
-- so none was hidden: the first that is met ends the call, and nothing is tried again.
pub record CountsFaults {X : Type 0} (result : Result X Fault) (old new : Faults) : Type 0 where
  pub none_fell : NoFewer old new
  pub missing : (name : List ℕ) → result ≡ Err (Missing name) → Rose old.missing new.missing
  pub read : IsErrOf result Read → Rose old.reads new.reads
  pub write : IsErrOf result Write → Rose old.writes new.writes
  pub once : CountsOnce result old new

-- an id to read the capture of a port that is named
pub record ReadsCapture (names : List Named) (i : Id) : Type 0 where
  pub port : ℕ
  pub name : List ℕ
  pub named : name_of names port ≡ Some name
  pub reads : IsReadingOf name i

-- the same, of a port below this number
pub record ReadsBelow (names : List Named) (n : ℕ) (i : Id) : Type 0 where
  pub port : ℕ
  pub below : port < n
  pub name : List ℕ
  pub named : name_of names port ≡ Some name
  pub reads : IsReadingOf name i

-- a file of this name was opened to be read, through an id that wasn't given before
abbrev pub OpensNew : List ℕ → (ℕ → Id) → (ℕ → Id) → Type 0
OpensNew name given ids = (id : ℕ) × ((given id).given ≡ false) × IsReadingOf name (ids id)

-- the capture of each port below this number that is named was
abbrev pub OpensEach : List Named → ℕ → (ℕ → Id) → (ℕ → Id) → Type 0
OpensEach names n given ids = (q : ℕ) (name : List ℕ) → q < n → name_of names q ≡ Some name → OpensNew name given ids

-- Checking ended at a port: no capture of a port above it was opened. Where the fault is one of a capture it is that of
-- this port, which has one; and where files are told, the captures before it have none.
pub record EndsAt (tells : Type 0) (names : List Named) (file : Files) (given ids : ℕ
    → Id) (fault : Fault) : Type 0 where
  pub port : ℕ
  pub own : (q : ℕ) (flaw : InputFlaw) → fault ≡ Capture q flaw → (q ≡ port) × (is_named names port ≡ true)
  pub before : tells → (q : ℕ) → q < port → IsGoodNamed (name_of names q) file
  pub opened : Opens (ReadsBelow names (port + 1)) given ids

-- no file has changed, and only through these ids was read
pub record OnlyReads (mine : List ℕ) (old new : Files) (given ids : ℕ → Id) : Type 0 where
  pub files : SameFiles old new
  pub reads : ReadsOn mine given ids
