-- What calls that play a net say of the shelf.
use Rattle.std.specs.Prelude.{◌≡◌, ℕ, List, Some, slice_get}
use Rattle.exb_timeline.specs.declared.bridge_timeline.Timeline.{Timeline}
use Rattle.exb_timeline.specs.NetMergeOrder.{AreAllReplays, IsOfBridge}
use Rattle.exb_timeline.specs.CaptureMerges.{HasPort, ReadsOn, standings}
use Rattle.exb_timeline.specs.Streams.{Stream}
use Rattle.exb_net_file.specs.declared.net_parts.BridgeInputs.{BridgeInputs}
use Rattle.exb_outputs.specs.Manifests.{Listed}
use Rattle.exb_shelf.specs.Files.{Files}
use Rattle.exb_shelf.specs.Shelf.{Id}
use Rattle.exb_inputs.specs.declared.fault.Fault.{Fault}
use Rattle.exb_inputs.specs.declared.fault.Fault.TheVariants.{MemberChanged}
use Rattle.exb_net.specs.WrittenOutputs.{OnlyAllListed}

-- no file but those of the manifests has changed, and only through these ids was read
pub record OnlyGoesOnAll (tells : Type 0) (ps : List Listed) (mine : List ℕ) (old new : Files) (given ids : ℕ
    → Id) : Type 0 where
  pub others : tells → OnlyAllListed ps old new
  pub reads : ReadsOn mine given ids

-- where the files are told they aren't those that were checked
abbrev pub AreOthersAll : Files → (ℕ → Id) → List Timeline → Type 0
AreOthersAll file ids ps = (streams : List (List Stream)) → AreAllReplays file ids ps streams → ⊥

-- a bridge of this name has a programme that reads a capture of a port
pub record IsOfCaptures (rests : List BridgeInputs) (ps : List Timeline) (name : List ℕ) (p : ℕ) : Type 0 where
  pub bridge : ℕ
  pub rest : BridgeInputs
  pub is : slice_get rests bridge ≡ Some rest
  pub called : rest.name ≡ name
  pub has : IsOfBridge ps bridge (λ m. HasPort p (standings m.captures))

-- a capture of a bridge is another one than the one that was checked
abbrev pub IsNetChange : Fault → Type 0
IsNetChange (MemberChanged name p at) = Unit {0}
IsNetChange _ = ⊥
