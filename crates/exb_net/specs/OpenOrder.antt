-- Which files a net opens, and in which order: its file, the topologies, the captures, the files that it makes, and the
-- captures again.
use Rattle.std.specs.Prelude.{⊤, ◌≡◌, ◌≢◌, ◌<◌, ◌≤◌, ◌⊎◌, ℕ, Bool, true, false, List, Some, Result, Ok, Err, IfErr, IsErrOf, String, flat_map, length, map, slice_get}
use Rattle.std.specs.declared.alloc.Global.{Global}
use Rattle.exb_model.specs.Ports.{below}
use Rattle.exb_net_spec.specs.declared.wires.Wire.{Wire}
use Rattle.exb_net_file.specs.declared.members.NetMember.{NetMember}
use Rattle.exb_net_file.specs.declared.elements.NetBridge.{NetBridge}
use Rattle.exb_inputs.specs.NetContents.{HoldsNet, HoldsNetFile}
use Rattle.exb_inputs.specs.OpenedNetFiles.{OpensNet, ReadsMemberCapture, ReadsTopologyOf}
use Rattle.exb_inputs.specs.NetFaultPhases.{IsOfNet}
use Rattle.exb_inputs.specs.NetRefusals.{NetCaptureFaulty}
use Rattle.exb_net_file.specs.declared.net_file.NetFile.{NetFile}
use Rattle.exb_inputs.specs.declared.fault.InputFlaw.{InputFlaw}
use Rattle.exb_net.specs.Answers.{IsNetReady}
use Rattle.exb_inputs.specs.declared.fault.Fault.{Fault}
use Rattle.exb_inputs.specs.declared.fault.Fault.TheVariants.{MemberCapture, MemberChanged, Read}
use Rattle.exb_inputs.specs.Answers.{fault_status}
use Rattle.exb_inputs.specs.Inputs.{is_named, name_of}
use Rattle.exb_outputs.specs.Manifests.{Listed, output_count, output_name}
use Rattle.exb_shelf.specs.Files.{Files}
use Rattle.exb_shelf.specs.Shelf.{Id, IsReading, IsReadingOf, Opens, writing}
use Rattle.exb_net.specs.Nets.{IsNetOutput, manifest_with}

-- ---- which files
-- an id to write an output of a bridge of a net
pub record WritesNetOutput (counters : Bool) (ms : List NetMember) (i : Id) : Type 0 where
  pub name : List ℕ
  pub output : IsNetOutput counters ms name
  pub writes : i ≡ writing name

-- an id to read the file of a net, a topology of one of its bridges, or a capture of one
abbrev pub ReadsNet : List ℕ → List NetBridge → List NetMember → Id → Type 0
ReadsNet name bs ms i = IsReadingOf name i ⊎ ReadsTopologyOf bs i ⊎ ReadsMemberCapture ms i

-- an id to read a topology that the net in the file of this name names
pub record ReadsNetTopology (name : List ℕ) (file : Files) (i : Id) : Type 0 where
  pub net : NetFile
  pub says : HoldsNetFile name file net
  pub topology : ReadsTopologyOf net.bridges i

-- an id to read a capture of it
pub record ReadsNetCapture (name : List ℕ) (file : Files) (i : Id) : Type 0 where
  pub members : List NetMember
  pub wires : List Wire
  pub holds : HoldsNet name file members wires
  pub capture : ReadsMemberCapture members i

-- the files that may be read
abbrev pub IsNetWanted : List ℕ → Files → Id → Type 0
IsNetWanted name file i = IsReadingOf name i ⊎ (ReadsNetTopology name file i ⊎ ReadsNetCapture name file i)

-- an id to write an output of it, where it and its captures can be played
pub record MakesNetOutputOf (name : List ℕ) (counters : Bool) (file : Files) (i : Id) : Type 0 where
  pub members : List NetMember
  pub wires : List Wire
  pub ready : IsNetReady name file members wires
  pub output : WritesNetOutput counters members i

-- ---- files that are made
-- the names of the outputs of a manifest, in the order in which they are made
abbrev pub names_of : Listed → List (List ℕ)
names_of manifest = map (output_name manifest) (below (output_count manifest))

-- those of all bridges, bridge after bridge
abbrev pub net_names : Bool → List NetMember → List (List ℕ)
net_names counters ms = flat_map (λ m. names_of (manifest_with counters m)) ms

-- The first k files of these names were made, one after the other and each once, and no other file: `at` says through
-- which ids. Since ids rise, their order is that in which the files were made.
pub record MadeInTurn (names : List (List ℕ)) (k : ℕ) (given ids : ℕ → Id) : Type 0 where
  pub at : ℕ → ℕ
  pub within : k ≤ length names
  pub fresh : (j : ℕ) → j < k → (given (at j)).given ≡ false
  pub named : (j : ℕ) (name : List ℕ) → j < k → slice_get names j ≡ Some name → ids (at j) ≡ writing name
  pub rises : (i j : ℕ) → i < j → j < k → at i < at j
  pub only : (id : ℕ) → (given id).given ≡ false → (ids id).given ≡ true → (ids id).reads ≡ false
      → (j : ℕ) × (j < k) × (id ≡ at j)

-- a result that comes only after all files were made
abbrev pub IsNetLate : {X : Type 0} → Result X Fault → Type 0
IsNetLate (Ok x) = ⊤
IsNetLate (Err (MemberChanged name p at)) = ⊤
IsNetLate (Err _) = ⊥

-- The first files of a net were made, and all of them where all went well or a capture turned out to be another one.
-- Where the shelf failed to read that was before the first one was made, or behind the last.
pub record MakesNet {X : Type 0} (counters : Bool) (ms : List NetMember) (result : Result X Fault) (given ids : ℕ
    → Id) : Type 0 where
  pub count : ℕ
  pub made : MadeInTurn (net_names counters ms) count given ids
  pub all : IsNetLate result → count ≡ length (net_names counters ms)
  pub unread : IsErrOf result Read → (count ≡ 0) ⊎ (count ≡ length (net_names counters ms))

-- the capture of each port of each bridge that is named was opened before this id was given
abbrev pub EachOfNetBefore : List NetMember → ℕ → (ℕ → Id) → (ℕ → Id) → Type 0
EachOfNetBefore ms i given ids =
    (b : ℕ) (m : NetMember) (q : ℕ) (name : List ℕ) → slice_get ms b ≡ Some m → q < 4160
    → name_of m.topology.captures q ≡ Some name
    → (j : ℕ) × ((given j).given ≡ false) × IsReadingOf name (ids j) × (j < i)

-- so before each file that was made
abbrev pub NetMadeBehind : List NetMember → (ℕ → Id) → (ℕ → Id) → Type 0
NetMadeBehind ms given ids = (i : ℕ) → (given i).given ≡ false → (ids i).given ≡ true → (ids i).reads ≡ false
    → EachOfNetBefore ms i given ids

-- a bridge of this name has a capture at a port
pub record HasCaptureAt (ms : List NetMember) (name : List ℕ) (p : ℕ) : Type 0 where
  pub bridge : ℕ
  pub member : NetMember
  pub is : slice_get ms bridge ≡ Some member
  pub called : member.name ≡ name
  pub named : is_named member.topology.captures p ≡ true

-- ---- the whole
-- What a net opened whose file, topologies and wires were read, whatever the shelf tells: these, its captures, and its
-- outputs, which were made in order, each once and behind all captures, and all of them where all went well or a
-- capture turned out to be another one. A capture with a fault, or one that is another, is that of a port that is
-- named; where a capture has a fault no file was made. The net was taken, so its end is none of those of a refused one.
pub record NetOpens (tells : Type 0) (name : List ℕ) (counters : Bool) (o : Result (String Global) Fault) (file : Files)
    (given ids : ℕ → Id) : Type 0 where
  pub bridges : List NetBridge
  pub members : List NetMember
  pub wires : List Wire
  pub holds : tells → (h : HoldsNet name file members wires) × (h.net.bridges ≡ bridges)
  pub opened : Opens (λ i. ReadsNet name bridges members i ⊎ WritesNetOutput counters members i) given ids
  pub made : MakesNet counters members o given ids
  pub behind : NetMadeBehind members given ids
  pub first : tells → (fault : Fault) → NetCaptureFaulty name file fault → Opens IsReading given ids
  pub taken : IfErr o (λ x. fault_status x ≢ 3)
  pub own : (bridge : List ℕ) (p : ℕ) (flaw : InputFlaw) → IsErrOf o (MemberCapture bridge p flaw)
      → HasCaptureAt members bridge p
  pub changed : (bridge : List ℕ) (p at : ℕ) → IsErrOf o (MemberChanged bridge p at) → HasCaptureAt members bridge p

-- what was opened where a net is asked for: its file and topologies alone, where it was not taken, or that and more
abbrev pub NetOpensInOrder : Type 0 → List ℕ → Bool → Result (String Global) Fault → Files → (ℕ → Id) → (ℕ → Id)
    → Type 0
NetOpensInOrder tells name counters (Ok line) file given ids = NetOpens tells name counters (Ok line) file given ids
NetOpensInOrder tells name counters (Err fault) file given ids =
    (IsOfNet fault × OpensNet tells name file (Err fault) given ids)
    ⊎ NetOpens tells name counters (Err fault) file given ids
