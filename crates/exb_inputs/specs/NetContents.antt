-- What the file of a net and its topologies hold.
use Rattle.std.specs.Prelude.{◌≡◌, ◌≢◌, ◌≤◌, ℕ, true, List, Some, Ok, length, All, AllPairs}
use Rattle.exb_shelf.specs.Files.{Files}
use Rattle.exb_net_spec.specs.declared.wires.Wire.{Wire}
use Rattle.exb_topology.specs.declared.topology.Topology.{Topology}
use Rattle.exb_topology.specs.Soundness.{IsSound}
use Rattle.exb_net_file.specs.declared.net_file.NetFile.{NetFile}
use Rattle.exb_net_file.specs.declared.members.NetMember.{NetMember}
use Rattle.exb_net_file.specs.declared.elements.NetBridge.{NetBridge}
use Rattle.exb_net_file.specs.declared.elements.NetWire.{NetWire}
use Rattle.exb_net_file.specs.NetFiles.{net_file_of}
use Rattle.exb_net_file.specs.Soundness.{AreValid, MakesNets}
use Rattle.exb_net_file.specs.Wires.{wires_of}
use Rattle.exb_net_file.specs.EndNames.{is_name}
use Rattle.exb_inputs.specs.Answers.{HoldsTopology}
use Rattle.exb_inputs.specs.PairedLists.{OneByOne}

-- the file of this name is the file of a net, and says this
pub record HoldsNetFile (name : List ℕ) (file : Files) (net : NetFile) : Type 0 where
  pub bytes : List ℕ
  pub there : file name ≡ Some bytes
  pub read : net_file_of bytes ≡ Ok net

-- the topology file that is named for a bridge holds a topology
abbrev pub IsTopologyThere : Files → NetBridge → Type 0
IsTopologyThere file b = (t : Topology) × HoldsTopology b.topology file t

-- it holds what is said of it
pub record HoldsMember (file : Files) (b : NetBridge) (m : NetMember) : Type 0 where
  pub name : m.name ≡ b.name
  pub holds : HoldsTopology b.topology file m.topology

-- so for each bridge, in order
abbrev pub HoldsMembers : List NetBridge → Files → List NetMember → Type 0
HoldsMembers bs file ms = OneByOne (HoldsMember file) bs ms

-- The file of this name is the file of a net; the topology files that it names hold these bridges; and so its wires are
-- these.
pub record HoldsNet (name : List ℕ) (file : Files) (ms : List NetMember) (ws : List Wire) : Type 0 where
  pub net : NetFile
  pub says : HoldsNetFile name file net
  pub members : HoldsMembers net.bridges file ms
  pub wired : wires_of ms net.wires ≡ Ok ws

-- What holds of all bridges that were read, whatever the shelf tells: 1 to 16 with different names, each with a valid
-- setup and a sound topology, and at most 15 wires; and whatever net is made of them is valid.
pub record AreRead (ms : List NetMember) (ws : List Wire) : Type 0 where
  pub some : 1 ≤ length ms
  pub few : length ms ≤ 16
  pub names : All (λ m. is_name m.name ≡ true) ms
  pub apart : AllPairs (λ m k. m.name ≢ k.name) ms
  pub valid : AreValid ms
  pub sound : All (λ m. IsSound m.topology) ms
  pub written : List NetWire
  pub few_wires : length written ≤ 15
  pub wired : wires_of ms written ≡ Ok ws
  pub nets : MakesNets ms ws
