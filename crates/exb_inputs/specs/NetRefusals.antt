-- Why a net is not taken: the first of all faults, in the order in which they are looked for.
use Rattle.std.specs.Prelude.{◌≡◌, ◌<◌, ◌⊎◌, ℕ, List, Option, Some, None, Result, Err, slice_get}
use Rattle.exb_toml_keys.specs.declared.faults.TopoFault.{TopoFault}
use Rattle.exb_toml_keys.specs.declared.faults.TopoFault.TheVariants as topology
use Rattle.exb_toml_keys.specs.Faults.{Refusal, not_toml, large, at}
use Rattle.exb_shelf.specs.Files.{Files}
use Rattle.exb_net_spec.specs.declared.wires.Wire.{Wire}
use Rattle.exb_net_file.specs.declared.net_file.NetFile.{NetFile}
use Rattle.exb_net_file.specs.declared.members.NetMember.{NetMember}
use Rattle.exb_net_file.specs.declared.elements.NetBridge.{NetBridge}
use Rattle.exb_net_file.specs.NetFiles.{net_file_of}
use Rattle.exb_net_file.specs.Wires.{wires_of}
use Rattle.exb_inputs.specs.declared.fault.Fault.{Fault}
use Rattle.exb_inputs.specs.declared.fault.Fault.TheVariants.{Missing, Topology, Capture, Changed, Net, Member, MemberCapture, MemberChanged, Memory}
use Rattle.exb_inputs.specs.Answers.{IsRefused}
use Rattle.exb_inputs.specs.CaptureChecks.{FirstFault}
use Rattle.exb_inputs.specs.NetContents.{HoldsMembers, HoldsNet, HoldsNetFile, IsTopologyThere}
use Rattle.exb_inputs.specs.MemberChecks.{AreGood}

-- ---- faults
-- a fault of a bridge of this name, as one of the net
abbrev pub member_fault : List ℕ → Fault → Fault
member_fault name (Topology fault) = Member name fault
member_fault name (Capture p flaw) = MemberCapture name p flaw
member_fault name (Changed p byte) = MemberChanged name p byte
member_fault name fault = fault

-- a fault of the file of a net, of which want of memory is none of the file's
abbrev pub net_fault_by : TopoFault → Fault
net_fault_by topology.Memory = Memory
net_fault_by topology.NotToml = Net topology.NotToml
net_fault_by topology.Large = Net topology.Large
net_fault_by (topology.At fault key) = Net (topology.At fault key)

-- why the file of a net, or its wires, are refused
abbrev pub net_refused_by : Refusal → Fault
net_refused_by not_toml = Net topology.NotToml
net_refused_by large = Net topology.Large
net_refused_by (at fault key) = Net (topology.At fault key)

-- what a definition refuses with this fault
abbrev pub IsNetRefusal : {X : Type 0} → Result X Refusal → Fault → Type 0
IsNetRefusal read fault = (refusal : Refusal) × (read ≡ Err refusal) × (fault ≡ net_refused_by refusal)

-- ---- of the file, the topologies and the wires
-- the file of a net with these bytes, if it is there, is refused by itself, or it is missing
abbrev pub IsFileRefused : List ℕ → Option (List ℕ) → Fault → Type 0
IsFileRefused name None fault = fault ≡ Missing name
IsFileRefused name (Some bytes) fault = IsNetRefusal (net_file_of bytes) fault

-- the topology of a bridge is missing or refused with this fault
abbrev pub IsOwnRefusal : Files → NetBridge → Fault → Type 0
IsOwnRefusal file b fault = (own : Fault) × IsRefused b.topology (file b.topology) own
    × (fault ≡ member_fault b.name own)

-- of these bridges, in order, the first whose topology is missing or refused, and with which fault
pub record FirstRefused (bs : List NetBridge) (file : Files) (fault : Fault) : Type 0 where
  pub index : ℕ
  pub bridge : NetBridge
  pub is_there : slice_get bs index ≡ Some bridge
  pub before : (i : ℕ) (b : NetBridge) → i < index → slice_get bs i ≡ Some b → IsTopologyThere file b
  pub here : IsOwnRefusal file bridge fault

-- the file is one, and its first topology that is missing or refused has this fault
pub record IsMemberRefused (name : List ℕ) (file : Files) (fault : Fault) : Type 0 where
  pub net : NetFile
  pub says : HoldsNetFile name file net
  pub first : FirstRefused net.bridges file fault

-- the file and all topologies are read; this is the first fault that shows over all of them
pub record AreWiresRefused (name : List ℕ) (file : Files) (fault : Fault) : Type 0 where
  pub net : NetFile
  pub says : HoldsNetFile name file net
  pub bridges : List NetMember
  pub members : HoldsMembers net.bridges file bridges
  pub refused : IsNetRefusal (wires_of bridges net.wires) fault

-- this is why the net in the file of this name is not taken
abbrev pub IsNetRefused : List ℕ → Files → Fault → Type 0
IsNetRefused name file fault = IsFileRefused name (file name) fault
    ⊎ (IsMemberRefused name file fault ⊎ AreWiresRefused name file fault)

-- ---- of the captures
-- the first capture of a bridge, in port order, that has a fault, has this one
pub record IsOwnFault (m : NetMember) (file : Files) (fault : Fault) : Type 0 where
  pub port : ℕ
  pub own : Fault
  pub first : FirstFault m.topology.captures file port own
  pub is : fault ≡ member_fault m.name own

-- of these bridges, in order, the first of which a capture has a fault, and with which
pub record FirstMemberFault (ms : List NetMember) (file : Files) (fault : Fault) : Type 0 where
  pub bridge : ℕ
  pub member : NetMember
  pub is_there : slice_get ms bridge ≡ Some member
  pub before : (b : ℕ) (m : NetMember) → b < bridge → slice_get ms b ≡ Some m → AreGood m file
  pub here : IsOwnFault member file fault

-- the net in the file of this name is read, and this is the first fault of a capture of it
pub record NetCaptureFaulty (name : List ℕ) (file : Files) (fault : Fault) : Type 0 where
  pub members : List NetMember
  pub wires : List Wire
  pub holds : HoldsNet name file members wires
  pub first : FirstMemberFault members file fault
