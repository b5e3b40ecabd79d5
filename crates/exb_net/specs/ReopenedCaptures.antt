-- The captures of bridges are opened again: when the net begins, and what each bridge's programme is then.
use Rattle.std.specs.Prelude.{⊤, ◌≡◌, ◌≤◌, ◌+◌, false, ℕ, List, [], ◌∷◌, Some, flat_map, map, slice_get, sum_by}
use Rattle.std.specs.List.{AllByRecursion}
use Rattle.std.specs.declared.alloc.Global.{Global}
use Rattle.std.specs.declared.vec.Vec.{Vec}
use Rattle.exb_model.specs.Input.{least_or}
use Rattle.exb_timeline.specs.declared.bridge_timeline.Timeline.{Timeline}
use Rattle.exb_timeline.specs.CaptureMerges.{AreReplays, ids_in, left_in, standings}
use Rattle.exb_timeline.specs.Streams.{Stream}
use Rattle.exb_shelf.specs.Files.{Files}
use Rattle.exb_shelf.specs.Shelf.{Id}
use Rattle.exb_net_file.specs.declared.net_parts.BridgeInputs.{BridgeInputs}
use Rattle.exb_inputs.specs.declared.captures.CheckedCapture.{CheckedCapture}
use Rattle.exb_inputs.specs.ReplayStart.{first_standing, seconds_told, stream_told}
use Rattle.exb_inputs.specs.ShelfEffects.{ReadsCapture}

-- the whole seconds of the first records of all bridges' captures, of those that have any
abbrev pub seconds_of_all : List (Vec CheckedCapture Global) → List ℕ
seconds_of_all cs = flat_map (λ (c : Vec CheckedCapture Global). seconds_told c.items) cs

-- the second from which commands count: the least of them, or 0
abbrev pub start_of_told : List (Vec CheckedCapture Global) → ℕ
start_of_told cs = least_or 0 (seconds_of_all cs)

-- a bridge's programme before anything is taken: all its commands, and each capture at its first record
pub record IsReopened (start : ℕ) (r : BridgeInputs) (checked : List CheckedCapture) (p : Timeline) : Type 0 where
  pub start_is : p.start ≡ start
  pub commands_are : p.commands.now ≡ r.commands
  pub none : p.taken ≡ 0
  pub standing : standings p.captures ≡ map first_standing checked
  pub left : left_in p.captures ≤ sum_by (λ c. c.told.bytes + 1) checked

-- whose captures were opened through new ids; where files are told, all of them is still to come
pub record IsOpenedAgain (tells : Type 0) (start : ℕ) (r : BridgeInputs) (checked : List CheckedCapture)
    (file now : Files) (given ids : ℕ → Id) (p : Timeline) : Type 0 where
  pub is : IsReopened start r checked p
  pub fresh : AllByRecursion (λ k. (given k).given ≡ false) (ids_in p.captures)
  pub named : AllByRecursion (λ k. ReadsCapture r.captures (ids k)) (ids_in p.captures)
  pub streams : tells → AreReplays now ids p.captures.sources.items (map (stream_told r.captures file) checked)

-- so of each bridge, in order
abbrev pub AreReopened : ℕ → List BridgeInputs → List (Vec CheckedCapture Global) → List Timeline → Type 0
AreReopened start [] [] [] = ⊤
AreReopened start (r ∷ rs) (c ∷ cs) (p ∷ ps) = IsReopened start r c.items p × AreReopened start rs cs ps
AreReopened start _ _ _ = ⊥

-- what is still to come of the captures of each bridge
abbrev pub streams_of : List BridgeInputs → List (Vec CheckedCapture Global) → Files → List (List Stream)
streams_of [] cs file = []
streams_of (r ∷ rs) [] file = []
streams_of (r ∷ rs) (c ∷ cs) file = map (stream_told r.captures file) c.items ∷ streams_of rs cs file

-- an id to read a capture of one of these bridges
pub record ReadsRest (rs : List BridgeInputs) (i : Id) : Type 0 where
  pub bridge : ℕ
  pub rest : BridgeInputs
  pub is : slice_get rs bridge ≡ Some rest
  pub capture : ReadsCapture rest.captures i
