-- What holds of every net whose file and topologies have no fault.
use Rattle.std.specs.Prelude.{◌≡◌, ◌↔◌, ℕ, ◌<◌, ◌≤◌, true, false, List, [], Ok, All, get_or, length, map}
use Rattle.exb_model.specs.Input.{Input, given_by}
use Rattle.exb_model.specs.Setup.{IsValid}
use Rattle.exb_net_spec.specs.declared.wires.Wire.{Wire}
use Rattle.exb_net_spec.specs.Nets.{Net, IsNet, IsOfFile, AreJoined}
use Rattle.exb_net_spec.specs.InputOrder.{AreTimely}
use Rattle.exb_journal.specs.declared.file_names.OutputKind.{OutputKind}
use Rattle.exb_journal.specs.FileNames.{file_name, IsOfPort}
use Rattle.exb_topology.specs.Soundness.{IsSound}
use Rattle.exb_net_file.specs.declared.net_file.NetFile.{NetFile}
use Rattle.exb_net_file.specs.declared.members.NetMember.{NetMember}
use Rattle.exb_net_file.specs.declared.elements.NetWire.{NetWire}
use Rattle.exb_net_file.specs.NetFiles.{IsNetFile, net_file_of}
use Rattle.exb_net_file.specs.EndNames.{is_name}
use Rattle.exb_net_file.specs.Members.{prefix_of}
use Rattle.exb_net_file.specs.Wires.{has_capture, are_joined, wires_of}

-- each bridge has a valid setup
abbrev pub AreValid : List NetMember → Type 0
AreValid ms = All (λ m. IsValid m.topology.setup) ms

-- The input of a bridge is that of its topology: ports without a capture have no records, whatever the captures hold.
pub record IsInputOf (m : NetMember) (i : Input) : Type 0 where
  pub setup : i.setup ≡ m.topology.setup
  pub commands : i.commands ≡ map given_by m.topology.commands
  pub free : (p : ℕ) → has_capture m p ≡ false → i.records p ≡ []

-- a net of these bridges and wires
pub record IsMadeOf (ms : List NetMember) (xs : List Wire) (n : Net) : Type 0 where
  pub count : n.count ≡ length ms
  pub inputs : (b : ℕ) (d : NetMember) → b < length ms → IsInputOf (get_or ms b d) (n.input b)
  pub wires : n.wires ≡ xs

-- whatever net is made of these bridges and wires is valid
pub record MakesNets (ms : List NetMember) (xs : List Wire) : Type 0 where
  pub valid : (n : Net) → IsMadeOf ms xs n → IsNet n

-- By the definition of what a file says alone.
abbrev pub FilesAreSound : Type 0
FilesAreSound = (file : List ℕ) (f : NetFile) → net_file_of file ≡ Ok f → IsNetFile f

-- By the definition of the wires alone, of bridges with valid setups: what is made of them is a valid net, and as large
-- as a file's.
abbrev pub WiresMakeNets : Type 0
WiresMakeNets = (ms : List NetMember) (ws : List NetWire) (xs : List Wire) (n : Net) → AreValid ms
    → wires_of ms ws ≡ Ok xs → IsMadeOf ms xs n → IsNet n

abbrev pub NetsAreOfFile : Type 0
NetsAreOfFile = (ms : List NetMember) (ws : List NetWire) (xs : List Wire) (n : Net) → 1 ≤ length ms → length ms ≤ 16
    → length ws ≤ 15 → wires_of ms ws ≡ Ok xs → IsMadeOf ms xs n → IsOfFile n

-- Commands of sound topologies come in their order.
abbrev pub NetsAreTimely : Type 0
NetsAreTimely = (ms : List NetMember) (xs : List Wire) (n : Net) → All (λ m. IsSound m.topology) ms → IsMadeOf ms xs n
    → AreTimely n

-- What the test of loops joins is what wires join.
abbrev pub JoinedIsExact : Type 0
JoinedIsExact = (xs : List Wire) (b c : ℕ) → (are_joined xs b c ≡ true) ↔ AreJoined xs b c

-- Bridges with two names write no file of one name.
abbrev pub BridgesWriteApart : Type 0
BridgesWriteApart =
    (m k : List ℕ) (x y : OutputKind) → is_name m ≡ true → is_name k ≡ true → IsOfPort x → IsOfPort y
    → file_name (prefix_of m) x ≡ file_name (prefix_of k) y → (m ≡ k) × (x ≡ y)
