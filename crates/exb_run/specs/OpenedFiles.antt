-- Which files are opened.
use Rattle.std.specs.Prelude.{⊤, ◌≡◌, ◌≢◌, ◌<◌, ◌+◌, ◌++◌, ◌⊎◌, ℕ, true, false, List, Option, Some, None, Result, Ok, Err, IsErrOf, String}
use Rattle.std.specs.declared.alloc.Global.{Global}
use Rattle.exb_model.specs.Setup.{shape_of}
use Rattle.exb_shelf.specs.Files.{Files}
use Rattle.exb_shelf.specs.Shelf.{Id, IsReading, IsReadingOf, Opens, writing}
use Rattle.exb_topology_tables.specs.declared.elements.Named.{Named}
use Rattle.exb_topology.specs.declared.topology.Topology.{Topology}
use Rattle.exb_cli.specs.declared.invocations.Options.{Options}
use Rattle.exb_cli.specs.CommandLines.{Ask, Run, Check, Make, Audit, Net}
use Rattle.exb_audit_files.specs.OpenedFiles.{ReadsEvidence}
use Rattle.exb_audit_files.specs.Scopes.{scope_of}
use Rattle.exb_outputs.specs.CreationOrder.{MadeInOrder, MakesInOrder}
use Rattle.exb_outputs.specs.Manifests.{Listed, output_count}
use Rattle.exb_inputs.specs.declared.fault.Fault.{Fault}
use Rattle.exb_inputs.specs.declared.fault.Fault.TheVariants.{Capture, Changed}
use Rattle.exb_inputs.specs.declared.fault.InputFlaw.{InputFlaw}
use Rattle.exb_inputs.specs.Inputs.{is_named, name_of}
use Rattle.exb_inputs.specs.CaptureChecks.{AreAllGood, FirstFault}
use Rattle.exb_inputs.specs.FaultPhases.{IsOfTopology}
use Rattle.exb_inputs.specs.ShelfEffects.{ReadsBelow, ReadsCapture}
use Rattle.exb_inputs.specs.Answers.{HoldsTopology, fault_line}
use Rattle.exb_run.specs.Answers.{IsReady}
use Rattle.exb_outputs.specs.OutputNames.{IsOutput}
use Rattle.exb_net.specs.OpenOrder.{MakesNetOutputOf, NetOpensInOrder, ReadsNetCapture, ReadsNetTopology}

-- an id to read the topology, or the file of a net, that is asked for
abbrev pub ReadsTopology : Option Ask → Id → Type 0
ReadsTopology None i = ⊥
ReadsTopology (Some (Run name options)) i = IsReadingOf name i
ReadsTopology (Some (Check name)) i = IsReadingOf name i
ReadsTopology (Some (Make number)) i = ⊥
ReadsTopology (Some (Audit name)) i = IsReadingOf name i
ReadsTopology (Some (Net name counters)) i = IsReadingOf name i

-- what may be opened where it is refused: that alone, and of a net topologies too
abbrev pub ReadsRefused : Option Ask → Id → Type 0
ReadsRefused (Some (Net name counters)) i = IsReading i
ReadsRefused a i = ReadsTopology a i

-- an id to read a capture of the topology in the file of this name
pub record ReadsCaptureOf (name : List ℕ) (file : Files) (i : Id) : Type 0 where
  pub topology : Topology
  pub holds : HoldsTopology name file topology
  pub capture : ReadsCapture topology.captures i

-- an id to read what an audit of the topology in the file of this name reads
pub record ReadsEvidenceOf (name : List ℕ) (file : Files) (i : Id) : Type 0 where
  pub topology : Topology
  pub holds : HoldsTopology name file topology
  pub evidence : ReadsEvidence (scope_of topology) i

-- an id to read a capture of the topology that is to be played, or what is audited, or of a net a topology or a capture
abbrev pub ReadsInput : Option Ask → Files → Id → Type 0
ReadsInput (Some (Run name options)) file i = ReadsCaptureOf name file i
ReadsInput (Some (Audit name)) file i = ReadsEvidenceOf name file i
ReadsInput (Some (Net name counters)) file i = ReadsNetTopology name file i ⊎ ReadsNetCapture name file i
ReadsInput _ file i = ⊥

-- the files that may be read
abbrev pub IsWanted : Option Ask → Files → Id → Type 0
IsWanted a file i = ReadsTopology a i ⊎ ReadsInput a file i

-- an id to write an output of a topology
pub record WritesOutput (options : Options) (t : Topology) (i : Id) : Type 0 where
  pub name : List ℕ
  pub output : IsOutput options (shape_of t.setup) t.prefix name
  pub writes : i ≡ writing name

-- the files that a run of a topology may open: its captures, and where these are good, its outputs
abbrev pub IsOpenedFor : Options → Topology → Files → Id → Type 0
IsOpenedFor options t file i = ReadsCapture t.captures i ⊎ (AreAllGood t.captures file × WritesOutput options t i)

-- an id to write an output of the topology in the file of this name, where that and its captures can be played
pub record MakesOutputOf (name : List ℕ) (options : Options) (file : Files) (i : Id) : Type 0 where
  pub topology : Topology
  pub ready : IsReady name file topology
  pub output : WritesOutput options topology i

-- an id to write an output of the topology or the net that is to be played
abbrev pub MakesOutput : Option Ask → Files → Id → Type 0
MakesOutput (Some (Run name options)) file i = MakesOutputOf name options file i
MakesOutput (Some (Net name counters)) file i = MakesNetOutputOf name counters file i
MakesOutput _ file i = ⊥

-- Which files are opened: none where the words are not accepted or an input is made, the topology alone where it is
-- refused or checked, of a net none but to be read where it is refused, and files to be written in a run of a topology
-- or a net alone, at statuses 0, 1, 6, 7 and 10. Where files are told, none is read but the topology and its captures,
-- and in an audit what a run of it wrote, and none is made but its outputs; in a net its file, the topologies and their
-- captures, and none is made but its outputs.
pub record OpensBy (tells : Type 0) (status : ℕ) (a : Option Ask) (file : Files) (given ids : ℕ → Id) : Type 0 where
  pub nothing : a ≡ None → (j : ℕ) → ids j ≡ given j
  pub made : (number : ℕ) → a ≡ Some (Make number) → (j : ℕ) → ids j ≡ given j
  pub topology : status ≡ 3 → Opens (ReadsRefused a) given ids
  pub checked : (name : List ℕ) → a ≡ Some (Check name) → Opens (ReadsTopology a) given ids
  pub reads : status ≢ 0 → status ≢ 1 → status ≢ 6 → status ≢ 7 → status ≢ 10 → Opens IsReading given ids
  pub wanted : tells → status ≢ 0 → status ≢ 1 → status ≢ 6 → status ≢ 7 → status ≢ 10
      → Opens (IsWanted a file) given ids
  pub audited : (name : List ℕ) → a ≡ Some (Audit name) → Opens IsReading given ids
  pub only : tells → Opens (λ i. IsWanted a file i ⊎ MakesOutput a file i) given ids

-- ---- in order, over every shelf
-- what a run of a topology writes
abbrev pub manifest_for : Topology → Options → Listed
manifest_for t options = record { tree = shape_of t.setup; prefix = t.prefix; options = options }

-- an id to read a capture of a topology, or to write one of its outputs
abbrev pub IsFileOf : Options → Topology → Id → Type 0
IsFileOf options t i = ReadsCapture t.captures i ⊎ WritesOutput options t i

-- an id to read the topology in the file of this name, or the capture of a port up to this one
abbrev pub ReadsUpTo : List ℕ → Topology → ℕ → Id → Type 0
ReadsUpTo name t p i = IsReadingOf name i ⊎ ReadsBelow t.captures (p + 1) i

-- the capture of each port that is named was opened before this id was given
abbrev pub EachBefore : List Named → ℕ → (ℕ → Id) → (ℕ → Id) → Type 0
EachBefore names i given ids = (q : ℕ) (name : List ℕ) → q < 4160 → name_of names q ≡ Some name
    → (j : ℕ) × ((given j).given ≡ false) × IsReadingOf name (ids j) × (j < i)

-- so before each file that was made
abbrev pub MadeBehind : List Named → (ℕ → Id) → (ℕ → Id) → Type 0
MadeBehind names given ids = (i : ℕ) → (given i).given ≡ false → (ids i).given ≡ true → (ids i).reads ≡ false
    → EachBefore names i given ids

-- What a run of a topology opened, whatever the shelf tells: the topology, its captures, and its outputs, which were
-- made in order, each once and behind all captures, and all of them where all went well or a capture turned out to be
-- another one, which is that of a port that is named. Where the fault is one of a capture no capture of a later port
-- was opened; nor was one, or an output made, where files are told and a capture has a fault.
pub record RunOpens (tells : Type 0) (name : List ℕ) (options : Options) (o : Result (String Global) Fault)
    (file : Files) (given ids : ℕ → Id) : Type 0 where
  pub topology : Topology
  pub holds : tells → HoldsTopology name file topology
  pub opened : Opens (λ i. IsReadingOf name i ⊎ IsFileOf options topology i) given ids
  pub made : MakesInOrder (manifest_for topology options) o given ids
  pub behind : MadeBehind topology.captures given ids
  pub changed : (p at : ℕ) → IsErrOf o (Changed p at) → is_named topology.captures p ≡ true
  pub own : (p : ℕ) (flaw : InputFlaw) → IsErrOf o (Capture p flaw) → (is_named topology.captures p ≡ true)
      × Opens (ReadsUpTo name topology p) given ids
  pub first : tells → (p : ℕ) (fault : Fault) → FirstFault topology.captures file p fault
      → Opens (ReadsUpTo name topology p) given ids

-- the topology was not taken
abbrev pub IsRefusedEarly : Result (String Global) Fault → Type 0
IsRefusedEarly (Ok line) = ⊥
IsRefusedEarly (Err fault) = IsOfTopology fault

-- what was opened where this was asked for: that of a run, or the topology alone, where it was not taken; and so of a
-- net
abbrev pub OpensInOrder : Type 0 → Option Ask → Result (String Global) Fault → Files → (ℕ → Id) → (ℕ → Id) → Type 0
OpensInOrder tells (Some (Run name options)) o file given ids = (IsRefusedEarly o × Opens (IsReadingOf name) given ids)
    ⊎ RunOpens tells name options o file given ids
OpensInOrder tells (Some (Net name counters)) o file given ids = NetOpensInOrder tells name counters o file given ids
OpensInOrder tells a o file given ids = ⊤

-- The same by the status, with the line that was printed: at 4 that of the last port of which a capture was opened, and
-- at 10 that of a port whose capture is named. At 6 no output was made, since the topology or a capture could not be
-- read, or all were, since a capture could not be read again.
pub record RunOpened (tells printing : Type 0) (name : List ℕ) (options : Options) (status : ℕ) (file : Files)
    (given ids : ℕ → Id) (before after : List ℕ) : Type 0 where
  pub topology : Topology
  pub holds : tells → HoldsTopology name file topology
  pub opened : Opens (λ i. IsReadingOf name i ⊎ IsFileOf options topology i) given ids
  pub count : ℕ
  pub made : MadeInOrder (manifest_for topology options) count given ids
  pub behind : MadeBehind topology.captures given ids
  pub all : (status ≡ 0) ⊎ (status ≡ 10) → count ≡ output_count (manifest_for topology options)
  pub six : status ≡ 6 → (count ≡ 0) ⊎ (count ≡ output_count (manifest_for topology options))
  pub four : status ≡ 4 → (p : ℕ) × (flaw : InputFlaw) × (is_named topology.captures p ≡ true)
      × Opens (ReadsUpTo name topology p) given ids × (printing → after ≡ before ++ fault_line (Capture p flaw))
  pub ten : status ≡ 10 → (p : ℕ) × (byte : ℕ) × (p < 4160) × (is_named topology.captures p ≡ true)
      × (printing → after ≡ before ++ fault_line (Changed p byte))
  pub first : tells → (p : ℕ) (fault : Fault) → FirstFault topology.captures file p fault
      → Opens (ReadsUpTo name topology p) given ids

-- what a run opened, or the topology alone, at 1, 3, 5, 6 and 7
abbrev pub OpenedInOrder : Type 0 → Type 0 → List ℕ → Options → ℕ → Files → (ℕ → Id) → (ℕ → Id) → List ℕ → List ℕ
    → Type 0
OpenedInOrder tells printing name options status file given ids before after =
    ((status ≢ 0) × (status ≢ 4) × (status ≢ 10) × Opens (IsReadingOf name) given ids)
    ⊎ RunOpened tells printing name options status file given ids before after
