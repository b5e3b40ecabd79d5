-- What is opened while a net is read and the captures of its bridges are checked.
use Rattle.std.specs.Prelude.{◌≡◌, ◌<◌, ◌≤◌, ◌+◌, ◌⊎◌, ℕ, true, List, ◌∷◌, Some, Result, IfOk, length, map, slice_get, take}
use Rattle.exb_shelf.specs.Files.{Files}
use Rattle.exb_shelf.specs.Shelf.{Id, IsReadingOf, Opens}
use Rattle.exb_net_file.specs.declared.net_file.NetFile.{NetFile}
use Rattle.exb_net_file.specs.declared.members.NetMember.{NetMember}
use Rattle.exb_net_file.specs.declared.elements.NetBridge.{NetBridge}
use Rattle.exb_inputs.specs.declared.fault.Fault.{Fault}
use Rattle.exb_inputs.specs.declared.fault.Fault.TheVariants.{MemberCapture}
use Rattle.exb_inputs.specs.declared.fault.InputFlaw.{InputFlaw}
use Rattle.exb_inputs.specs.CaptureChecks.{IsGoodNamed}
use Rattle.exb_inputs.specs.Inputs.{is_named, name_of}
use Rattle.exb_inputs.specs.ShelfEffects.{OpensEach, ReadsBelow, ReadsCapture}
use Rattle.exb_inputs.specs.declared.net_inputs.NetInputs.{NetInputs}
use Rattle.exb_inputs.specs.MemberChecks.{AreGood}
use Rattle.exb_inputs.specs.NetContents.{HoldsNetFile, IsTopologyThere}
use Rattle.exb_inputs.specs.PairedLists.{OpensOneByOne}

-- ---- the file of a net and its topologies
-- an id to read the topology of one of these bridges
pub record ReadsTopologyOf (bs : List NetBridge) (i : Id) : Type 0 where
  pub index : ℕ
  pub bridge : NetBridge
  pub is_there : slice_get bs index ≡ Some bridge
  pub reads : IsReadingOf bridge.topology i

-- What was opened for the topologies of these bridges: those of the first so many, one after another, each only where
-- that before it is read; and those of all where all are.
pub record OpensTopologies {X : Type 0} (tells : Type 0) (bs : List NetBridge) (file : Files) (o : Result X Fault)
    (given ids : ℕ → Id) : Type 0 where
  pub count : ℕ
  pub within : count ≤ length bs
  pub opened : OpensOneByOne IsReadingOf (map (λ b. b.topology) (take count bs)) given ids
  pub before : tells → (i : ℕ) (b : NetBridge) → i + 1 < count → slice_get bs i ≡ Some b → IsTopologyThere file b
  pub all : IfOk o (λ x. count ≡ length bs)

-- What was opened while a net was read: first its file and then, where that says of these bridges, so many of their
-- topologies, one after another, each only where that before it is read; and those of all where the net is read.
pub record OpensNet (tells : Type 0) (name : List ℕ) (file : Files) (o : Result NetInputs Fault) (given ids : ℕ
    → Id) : Type 0 where
  pub bridges : List NetBridge
  pub says : tells → 0 < length bridges → (net : NetFile) × HoldsNetFile name file net × (net.bridges ≡ bridges)
  pub count : ℕ
  pub within : count ≤ length bridges
  pub opened : OpensOneByOne IsReadingOf (name ∷ map (λ b. b.topology) (take count bridges)) given ids
  pub before : tells → (i : ℕ) (b : NetBridge) → i + 1 < count → slice_get bridges i ≡ Some b → IsTopologyThere file b
  pub all : IfOk o (λ net. (count ≡ length bridges) × (map (λ m. m.name) net.members ≡ map (λ b. b.name) bridges))

-- ---- captures
-- an id to read a capture of one of these bridges
pub record ReadsMemberCapture (ms : List NetMember) (i : Id) : Type 0 where
  pub bridge : ℕ
  pub member : NetMember
  pub is_there : slice_get ms bridge ≡ Some member
  pub capture : ReadsCapture member.topology.captures i

-- the same, of a bridge before bridge b, or of a port of bridge b below n
pub record ReadsMemberBelow (ms : List NetMember) (b n : ℕ) (i : Id) : Type 0 where
  pub bridge : ℕ
  pub member : NetMember
  pub is_there : slice_get ms bridge ≡ Some member
  pub port : ℕ
  pub below : (bridge < b) ⊎ ((bridge ≡ b) × (port < n))
  pub name : List ℕ
  pub named : name_of member.topology.captures port ≡ Some name
  pub reads : IsReadingOf name i

-- the captures of these bridges were opened, bridge after bridge
abbrev pub OpensCaptures : List NetMember → (ℕ → Id) → (ℕ → Id) → Type 0
OpensCaptures ms given ids = OpensOneByOne (λ m. ReadsCapture m.topology.captures) ms given ids

-- each capture of each of these bridges was opened
abbrev pub OpensEachOf : List NetMember → (ℕ → Id) → (ℕ → Id) → Type 0
OpensEachOf ms given ids = (b : ℕ) (m : NetMember) → slice_get ms b ≡ Some m
    → OpensEach m.topology.captures 4160 given ids

-- Checking the captures of a bridge ended at a port of it: no capture of a port above it was opened. Where the fault is
-- one of a capture it is that of this port, which has one; and where files are told, the captures before it have none.
pub record EndsWithin (tells : Type 0) (m : NetMember) (file : Files) (given ids : ℕ
    → Id) (fault : Fault) : Type 0 where
  pub port : ℕ
  pub own : (name : List ℕ) (q : ℕ) (flaw : InputFlaw) → fault ≡ MemberCapture name q flaw → (name ≡ m.name)
      × (q ≡ port) × (is_named m.topology.captures port ≡ true)
  pub before : tells → (q : ℕ) → q < port → IsGoodNamed (name_of m.topology.captures q) file
  pub opened : Opens (ReadsBelow m.topology.captures (port + 1)) given ids

-- Checking ended at a port of a bridge: no capture of a port above it or of a later bridge was opened. Where the fault
-- is one of a capture it is that of this port, which has one; and where files are told, the captures before it have
-- none.
pub record EndsAtMember (tells : Type 0) (ms : List NetMember) (file : Files) (given ids : ℕ
    → Id) (fault : Fault) : Type 0 where
  pub bridge : ℕ
  pub port : ℕ
  pub own : (name : List ℕ) (q : ℕ) (flaw : InputFlaw) → fault ≡ MemberCapture name q flaw
      → (m : NetMember) × (slice_get ms bridge ≡ Some m) × (name ≡ m.name) × (q ≡ port)
      × (is_named m.topology.captures port ≡ true)
  pub before : tells → (b : ℕ) (m : NetMember) → b < bridge → slice_get ms b ≡ Some m → AreGood m file
  pub lower : tells → (m : NetMember) (q : ℕ) → slice_get ms bridge ≡ Some m → q < port
      → IsGoodNamed (name_of m.topology.captures q) file
  pub opened : Opens (ReadsMemberBelow ms bridge (port + 1)) given ids
