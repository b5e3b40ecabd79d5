-- What holds of every net, whatever reads it.
use Rattle.std.specs.Prelude.{◌≡◌, ℕ, List}
use Rattle.exb_shelf.specs.Files.{Files}
use Rattle.exb_net_spec.specs.declared.wires.Wire.{Wire}
use Rattle.exb_net_file.specs.declared.members.NetMember.{NetMember}
use Rattle.exb_net_file.specs.Soundness.{IsInputOf}
use Rattle.exb_inputs.specs.declared.fault.Fault.{Fault}
use Rattle.exb_inputs.specs.Inputs.{input_of}
use Rattle.exb_inputs.specs.MemberChecks.{AreAllMembersGood}
use Rattle.exb_inputs.specs.NetContents.{HoldsNet}
use Rattle.exb_inputs.specs.NetRefusals.{FirstMemberFault, IsNetRefused, NetCaptureFaulty}

-- A net is refused for one cause, and for none where it is held. It then has one first fault of a capture, which is
-- that of its bridges, or none, where all captures are good.
pub record HaveOneCause : Type 0 where
  pub once : (name : List ℕ) (file : Files) (x y : Fault) → IsNetRefused name file x → IsNetRefused name file y → x ≡ y
  pub held : (name : List ℕ) (file : Files) (ms : List NetMember) (ws : List Wire) (x : Fault)
      → HoldsNet name file ms ws → IsNetRefused name file x → ⊥
  pub capture : (name : List ℕ) (file : Files) (x y : Fault) → NetCaptureFaulty name file x
      → NetCaptureFaulty name file y → x ≡ y
  pub first : (name : List ℕ) (file : Files) (ms : List NetMember) (ws : List Wire) (x : Fault)
      → HoldsNet name file ms ws → NetCaptureFaulty name file x → FirstMemberFault ms file x
  pub good : (name : List ℕ) (file : Files) (ms : List NetMember) (ws : List Wire) (x : Fault)
      → HoldsNet name file ms ws → AreAllMembersGood ms file → NetCaptureFaulty name file x → ⊥

-- What a bridge is given is of its topology: a port without a capture has no records.
abbrev pub AreInputsOf : Type 0
AreInputsOf = (m : NetMember) (file : Files) → IsInputOf m (input_of m.topology file)
