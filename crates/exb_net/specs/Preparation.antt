-- What is made before the first event: the files of all bridges, one bridge after another; and what is then ready to be
-- played.
use Rattle.std.specs.Prelude.{◌≡◌, ◌<◌, ◌++◌, ℕ, Bool, List, [], Some, map, slice_get}
use Rattle.std.specs.declared.alloc.Global.{Global}
use Rattle.std.specs.declared.vec.Vec.{Vec}
use Rattle.exb_model.specs.declared.setup.Setup.{Setup}
use Rattle.exb_model.specs.Setup.{shape_of}
use Rattle.exb_inputs.specs.declared.captures.CheckedCapture.{CheckedCapture}
use Rattle.exb_net_spec.specs.declared.wires.Wire.{Wire}
use Rattle.exb_net_spec.specs.InputOrder.{AreTimely}
use Rattle.exb_net.specs.declared.net.Net.{Net as Bridges}
use Rattle.exb_net.specs.NetStates.{IsBegun, no_dones}
use Rattle.exb_net_file.specs.declared.net_parts.NetParts.{NetParts}
use Rattle.exb_net_file.specs.declared.net_parts.BridgeInputs.{BridgeInputs}
use Rattle.exb_net_file.specs.declared.members.NetMember.{NetMember}
use Rattle.exb_net_file.specs.SetupParts.{IsTakenApart, rest_of}
use Rattle.exb_net_file.specs.Members.{prefix_of}
use Rattle.exb_inputs.specs.MemberChecks.{AreMembersChecked}
use Rattle.exb_inputs.specs.NetContents.{AreRead}
use Rattle.exb_timeline.specs.declared.bridge_timeline.Timeline.{Timeline}
use Rattle.exb_outputs.specs.OutputNames.{IsCut}
use Rattle.exb_outputs.specs.Manifests.{Listed, kind_at, output_count, output_name}
use Rattle.exb_outputs.specs.CaptureSizes.{HasSent}
use Rattle.exb_outputs.specs.WrittenTexts.{HasTexts, IsReady, first_text, pieces_of}
use Rattle.exb_shelf.specs.Files.{Files}
use Rattle.exb_shelf.specs.Shelf.{Id}
use Rattle.exb_journal.specs.declared.file_names.OutputKind.{OutputKind}
use Rattle.exb_outputs.specs.Counts.{IsCounted}
use Rattle.exb_net.specs.declared.bridge_outputs.BridgeOutputs.{BridgeOutputs}
use Rattle.exb_net.specs.WrittenOutputs.{AreNoted, OnlyAllListed, manifests_in}
use Rattle.exb_net.specs.Nets.{net_of, options_with, manifest_with}
use Rattle.exb_net.specs.NetInvariants.{AreDesks, Begins, LeadsOn, NetRun, ReadsOthers}

-- ---- one bridge
-- what a bridge of this setup and name writes
abbrev pub manifest_under : Setup → List ℕ → Bool → Listed
manifest_under s name counters = record { tree = shape_of s; prefix = prefix_of name; options = options_with counters }

-- Its outputs were made and hold what they begin with, and nothing is counted yet.
pub record IsSet (tells : Type 0) (now : Files) (ids : ℕ → Id) (d : BridgeOutputs) : Type 0 where
  pub ready : IsReady d.manifest ids d.outputs
  pub counted : IsCounted d.manifest d.counted [] [] []
  pub texts : tells → HasTexts d.manifest (pieces_of d.outputs) now now first_text
  pub sent : HasSent d.manifest d.outputs (λ q. [])

-- ---- all bridges
-- So it is of the desk of each of these manifests, and no other file has changed.
pub record AreSet (tells : Type 0) (ps : List Listed) (old now : Files) (ids : ℕ
    → Id) (desks : List BridgeOutputs) : Type 0 where
  pub manifests : manifests_in desks ≡ ps
  pub each : (b : ℕ) (d : BridgeOutputs) → slice_get desks b ≡ Some d → IsSet tells now ids d
  pub others : tells → OnlyAllListed ps old now

-- each text goes on from what its file begins with
abbrev pub GoesFrom : (OutputKind → List ℕ) → Type 0
GoesFrom text = (o : OutputKind) → (rest : List ℕ) × (text o ≡ first_text o ++ rest)

-- each file of each manifest is as it was, or holds a front of its text
pub record AreCutAs (ps : List Listed) (old new : Files) (text : ℕ → OutputKind → List ℕ) : Type 0 where
  pub each : (b : ℕ) (p : Listed) → slice_get ps b ≡ Some p → (j : ℕ) → j < output_count p
      → IsCut (old (output_name p j)) (new (output_name p j)) (text b (kind_at p j))

-- ---- what is played
-- the net of these bridges and wires over these files, and what it writes
abbrev pub run_of : Bool → List NetMember → List Wire → Files → Files → NetRun
run_of counters ms ws file before = record {
  net = net_of ms ws file;
  before = before;
  manifests = map (manifest_with counters) ms;
}

-- Bridges that were read, whose captures were checked and are to be opened again.
pub record IsToBeOpened (tells : Type 0) (ms : List NetMember) (ws : List Wire) (rests : List BridgeInputs)
    (file : Files) (checked : List (Vec CheckedCapture Global)) : Type 0 where
  pub rests_are : rests ≡ map rest_of ms
  pub read : AreRead ms ws
  pub checked_are : AreMembersChecked tells ms file checked

-- A net that was read and taken apart, whose captures were checked and whose files were made.
pub record IsPrepared (tells : Type 0) (counters : Bool) (ms : List NetMember) (ws : List Wire) (parts : NetParts)
    (checked : List (Vec CheckedCapture Global)) (before now : Files) (ids : ℕ → Id) (desks : List BridgeOutputs) : Type
    0 where
  pub parts_are : IsTakenApart ms ws parts
  pub read : AreRead ms ws
  pub checked_are : AreMembersChecked tells ms now checked
  pub set : AreDesks tells (run_of counters ms ws now before) now ids desks
  pub noted : AreNoted tells now desks (no_dones (net_of ms ws now))

-- And its programmes: all that comes is still to come.
pub record CanPlay {V : Type 0} {X : V → Type 0} (tells : Type 0) (r : NetRun) (now : Files) (ids : ℕ
    → Id) (x : Bridges V X) (desks : List BridgeOutputs) (ps : List Timeline) : Type 0 where
  pub timely : AreTimely r.net
  pub begun : IsBegun r.net x
  pub set : AreDesks tells r now ids desks
  pub noted : AreNoted tells now desks (no_dones r.net)
  pub begins : Begins r.net ps
  pub apart : ReadsOthers r.manifests ids ps
  pub leads : tells → LeadsOn r.net [] now ids ps
