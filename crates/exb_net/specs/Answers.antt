-- How a net that is asked for ends: what is done, what stops it, and what has become of the files.
use Rattle.std.specs.Prelude.{⊤, ◌≡◌, ◌<◌, ◌⊎◌, ◌==◌, ◌||◌, IsTrue, ℕ, Bool, List, length}
use Rattle.exb_net_spec.specs.declared.wires.Wire.{Wire}
use Rattle.exb_net_spec.specs.BridgeHistories.{HoldsAll}
use Rattle.exb_net_file.specs.declared.members.NetMember.{NetMember}
use Rattle.exb_inputs.specs.MemberChecks.{AreAllMembersGood}
use Rattle.exb_inputs.specs.NetContents.{HoldsNet}
use Rattle.exb_inputs.specs.NetRefusals.{IsNetRefused, NetCaptureFaulty}
use Rattle.exb_toml_keys.specs.declared.faults.TopoFault.{TopoFault}
use Rattle.exb_toml_keys.specs.declared.faults.TopoFault.TheVariants as topology
use Rattle.exb_shelf.specs.Files.{Files, SameFiles}
use Rattle.exb_inputs.specs.declared.fault.Fault.{Fault}
use Rattle.exb_inputs.specs.declared.fault.Fault.TheVariants.{Missing, Net as BadNet, Member as BadMember, MemberCapture, MemberChanged, Read, Write, Memory}
use Rattle.exb_net.specs.Nets.{OnlyNetOutputs, net_of}
use Rattle.exb_net.specs.Outputs.{AreNetFronts, IsNetPlayed}

-- ---- what is done
-- the file of this name and the topologies that it names make these bridges and wires, and each capture of theirs can
-- be played
pub record IsNetReady (name : List ℕ) (file : Files) (ms : List NetMember) (ws : List Wire) : Type 0 where
  pub holds : HoldsNet name file ms ws
  pub good : AreAllMembersGood ms file

-- what is asked for can be done
pub record CanNetBeDone (name : List ℕ) (file : Files) : Type 0 where
  pub members : List NetMember
  pub wires : List Wire
  pub ready : IsNetReady name file members wires

-- all was played and written; this line sums it up; and the history of each bridge holds all that comes to it
pub record NetPlayed (name : List ℕ) (counters : Bool) (old new : Files) (line : List ℕ) : Type 0 where
  pub members : List NetMember
  pub wires : List Wire
  pub ready : IsNetReady name old members wires
  pub played : IsNetPlayed counters members (net_of members wires old) old new line
  pub holds : (b : ℕ) → b < length members → HoldsAll (net_of members wires old) played.histories b

-- ---- what has become of the files
-- whatever net the file of this name makes, no file but its outputs has changed
abbrev pub OnlyNetAsked : List ℕ → Bool → Files → Files → Type 0
OnlyNetAsked name counters old new = (ms : List NetMember) (ws : List Wire) → HoldsNet name old ms ws
    → OnlyNetOutputs counters ms old new

-- what the net in the file of this name leaves: fronts of what it calls for
pub record LeavesNetFronts (name : List ℕ) (old new : Files) : Type 0 where
  pub members : List NetMember
  pub wires : List Wire
  pub holds : HoldsNet name old members wires
  pub fronts : AreNetFronts members (net_of members wires old) old new

-- However it ended: no file has changed, or each capture and each journal is as it was or holds a front of its text.
abbrev pub AreFrontsOfNet : List ℕ → Files → Files → Type 0
AreFrontsOfNet name old new = SameFiles old new ⊎ LeavesNetFronts name old new

-- ---- faults
-- This stops a net, the first in the order in which things are looked at: its file, the topologies, the wires, and then
-- the captures of bridge after bridge.
abbrev pub NetStops : List ℕ → Files → Fault → Type 0
NetStops name file fault = IsNetRefused name file fault ⊎ NetCaptureFaulty name file fault

-- a fault of the shelf, or want of memory
abbrev pub IsNetFailure : Fault → Type 0
IsNetFailure fault = (fault ≡ Read) ⊎ (fault ≡ Write) ⊎ (fault ≡ Memory)

-- want of memory is no fault of a file
abbrev pub IsOfFile : TopoFault → Type 0
IsOfFile topology.Memory = ⊥
IsOfFile _ = ⊤

-- a fault that can come where a net is asked for
abbrev pub IsOfNet : Fault → Type 0
IsOfNet (Missing name) = ⊤
IsOfNet (BadNet fault) = IsOfFile fault
IsOfNet (BadMember name fault) = IsOfFile fault
IsOfNet (MemberCapture name p flaw) = p < 4160
IsOfNet (MemberChanged name p at) = p < 4160
IsOfNet Read = ⊤
IsOfNet Write = ⊤
IsOfNet Memory = ⊤
IsOfNet _ = ⊥

-- a fault that can come once all was read and checked: while captures are read again, played and written
abbrev pub IsOfNetPlay : Fault → Type 0
IsOfNetPlay (MemberChanged name p at) = p < 4160
IsOfNetPlay Read = ⊤
IsOfNetPlay Write = ⊤
IsOfNetPlay Memory = ⊤
IsOfNetPlay _ = ⊥

-- ---- statuses
-- the statuses that can come
abbrev pub IsNetStatus : ℕ → Type 0
IsNetStatus n = IsTrue (n == 0 || n == 1 || n == 3 || n == 4 || n == 5 || n == 6 || n == 7 || n == 10)
