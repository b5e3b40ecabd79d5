-- What a net opened, by the status of the call.
use Rattle.std.specs.Prelude.{◌≡◌, ◌≢◌, ◌<◌, ◌++◌, ◌⊎◌, ℕ, Bool, List, Err, length}
use Rattle.exb_net_spec.specs.declared.wires.Wire.{Wire}
use Rattle.exb_net_file.specs.declared.members.NetMember.{NetMember}
use Rattle.exb_net_file.specs.declared.elements.NetBridge.{NetBridge}
use Rattle.exb_inputs.specs.NetContents.{HoldsNet}
use Rattle.exb_inputs.specs.OpenedNetFiles.{OpensNet}
use Rattle.exb_inputs.specs.NetRefusals.{NetCaptureFaulty}
use Rattle.exb_net.specs.OpenOrder.{HasCaptureAt, MadeInTurn, NetMadeBehind, ReadsNet, WritesNetOutput, net_names}
use Rattle.exb_inputs.specs.Answers.{fault_line}
use Rattle.exb_inputs.specs.declared.fault.Fault.{Fault}
use Rattle.exb_inputs.specs.declared.fault.Fault.TheVariants.{MemberCapture, MemberChanged}
use Rattle.exb_inputs.specs.declared.fault.InputFlaw.{InputFlaw}
use Rattle.exb_shelf.specs.Files.{Files}
use Rattle.exb_shelf.specs.Shelf.{Id, IsReading, Opens}

-- What a net opened whose file, topologies and wires were read, with the line that was printed: these, its captures,
-- and its outputs, which were made in order, each once and behind all captures, all of them at 0 and 10, and none or
-- all at 6. At 4 and at 10 the line is that of a port of a bridge whose capture is named. Where files are told and a
-- capture has a fault, no file was made, whatever the status is. At 3 the net was not taken, so this is not how it
-- ended.
pub record NetOpened (tells printing : Type 0) (name : List ℕ) (counters : Bool) (status : ℕ) (file : Files)
    (given ids : ℕ → Id) (before after : List ℕ) : Type 0 where
  pub bridges : List NetBridge
  pub members : List NetMember
  pub wires : List Wire
  pub holds : tells → (h : HoldsNet name file members wires) × (h.net.bridges ≡ bridges)
  pub opened : Opens (λ i. ReadsNet name bridges members i ⊎ WritesNetOutput counters members i) given ids
  pub count : ℕ
  pub made : MadeInTurn (net_names counters members) count given ids
  pub behind : NetMadeBehind members given ids
  pub all : (status ≡ 0) ⊎ (status ≡ 10) → count ≡ length (net_names counters members)
  pub taken : status ≢ 3
  pub six : status ≡ 6 → (count ≡ 0) ⊎ (count ≡ length (net_names counters members))
  pub four : status ≡ 4 → (bridge : List ℕ) × (p : ℕ) × (flaw : InputFlaw) × HasCaptureAt members bridge p
      × (printing → after ≡ before ++ fault_line (MemberCapture bridge p flaw))
  pub ten : status ≡ 10 → (bridge : List ℕ) × (p : ℕ) × (byte : ℕ) × (p < 4160) × HasCaptureAt members bridge p
      × (printing → after ≡ before ++ fault_line (MemberChanged bridge p byte))
  pub first : tells → (fault : Fault) → NetCaptureFaulty name file fault → Opens IsReading given ids

-- so, or its file and topologies alone, one after another, where it was not taken, at 1, 3, 5, 6 and 7
abbrev pub NetOpenedInOrder : Type 0 → Type 0 → List ℕ → Bool → ℕ → Files → (ℕ → Id) → (ℕ → Id) → List ℕ → List ℕ
    → Type 0
NetOpenedInOrder tells printing name counters status file given ids before after =
    ((status ≢ 0) × (status ≢ 4) × (status ≢ 10) × (fault : Fault) × OpensNet tells name file (Err fault) given ids)
    ⊎ NetOpened tells printing name counters status file given ids before after
