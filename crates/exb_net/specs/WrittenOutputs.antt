-- What the bridges of a net have written and counted, each under a manifest of its own.
use Rattle.std.specs.Prelude.{◌≡◌, ◌≢◌, ◌≤◌, ◌<◌, ◌+◌, ◌^◌, ℕ, List, [], ◌++◌, Some, length, map, take, slice_get, All}
use Rattle.exb_model.specs.Texts.{Counts}
use Rattle.exb_world_spec.specs.Steps.{Stepped}
use Rattle.exb_world.specs.WorldContracts.{Network}
use Rattle.exb_bridge.specs.BridgeWorlds.{all_left}
use Rattle.exb_world_spec.specs.Worlds.{left_at}
use Rattle.exb_shelf.specs.Files.{Files}
use Rattle.exb_shelf.specs.Shelf.{Id}
use Rattle.exb_journal.specs.declared.file_names.OutputKind.{OutputKind}
use Rattle.exb_journal.specs.Tallies.{FitsTally, counts_of}
use Rattle.exb_outputs.specs.Manifests.{Listed, kind_at, output_count, output_name}
use Rattle.exb_outputs.specs.CaptureSizes.{AreCountedAt, HasSent}
use Rattle.exb_outputs.specs.WrittenTexts.{HasTexts, IsReady, pieces_of}
use Rattle.exb_outputs.specs.declared.run_counts.RunCounts.{RunCounts}
use Rattle.exb_outputs.specs.Counts.{AreCountsOf, CanCount, GoTogether, IsCounted, counts_text}
use Rattle.exb_outputs.specs.SentFrames.{CanBeWritten}
use Rattle.exb_outputs.specs.KindTexts.{text_so_far}
use Rattle.exb_net_laws.specs.NetRuns.{Dones}
use Rattle.exb_net.specs.declared.node.Node.{Node}
use Rattle.exb_net.specs.declared.bridge_outputs.BridgeOutputs.{BridgeOutputs}
use Rattle.exb_net.specs.Summaries.{added}

-- ---- one bridge
-- what its world tells was told since this was
pub record IsMore (told done : Stepped) (n : Network) : Type 0 where
  pub events : done.events ≡ told.events ++ n.log.events
  pub passed : done.passed ≡ told.passed ++ n.log.passed
  pub left : done.left ≡ told.left ++ all_left n.log.left

-- the texts of what it did; its counters have theirs at the end
abbrev pub text_of : Stepped → List ℕ → OutputKind → List ℕ
text_of d counts = text_so_far d.events d.left [] counts

-- The files of a desk hold the texts of what its bridge did, but for what isn't written yet; and what is counted is
-- that.
pub record IsNoted (tells : Type 0) (now : Files) (d : BridgeOutputs) (done : Stepped) : Type 0 where
  pub counted : IsCounted d.manifest d.counted done.events done.passed done.left
  pub texts : tells → HasTexts d.manifest (pieces_of d.outputs) now now (text_of done [])
  pub sent : HasSent d.manifest d.outputs (λ q. left_at q done.left)

-- each file of a manifest holds a front of such a text
pub record AreFronts (manifest : Listed) (now : Files) (done : Stepped) : Type 0 where
  pub counts : List ℕ
  pub each : (j : ℕ) → j < output_count manifest → (q : ℕ)
      × (now (output_name manifest j) ≡ Some (take q (text_of done counts (kind_at manifest j))))

-- each file of a manifest holds the text of its kind
pub record IsWhole (manifest : Listed) (now : Files) (text : OutputKind → List ℕ) : Type 0 where
  pub each : (j : ℕ) → j < output_count manifest → now (output_name manifest j) ≡ Some (text (kind_at manifest j))

-- what a world tells can be written and counted
pub record CanNote (manifest : Listed) (c : RunCounts) (n : Network) : Type 0 where
  pub frames : All (λ x. CanBeWritten manifest x) n.log.left
  pub can : CanCount c n.log.events n.log.passed (length (all_left n.log.left))

-- ---- all bridges
abbrev pub manifests_in : List BridgeOutputs → List Listed
manifests_in ds = map (λ (d : BridgeOutputs). d.manifest) ds

-- no two manifests have a file of one name
pub record AreManifestsApart (ps : List Listed) : Type 0 where
  pub each : (a b : ℕ) (p q : Listed) → slice_get ps a ≡ Some p → slice_get ps b ≡ Some q → a ≢ b → (i j : ℕ)
      → i < output_count p → j < output_count q → output_name p i ≢ output_name q j

-- the name of no file of any of them
abbrev pub IsOther : List Listed → List ℕ → Type 0
IsOther ps m = (b : ℕ) (p : Listed) → slice_get ps b ≡ Some p → (j : ℕ) → j < output_count p → m ≢ output_name p j

-- no other file has changed
abbrev pub OnlyAllListed : List Listed → Files → Files → Type 0
OnlyAllListed ps old new = (m : List ℕ) → IsOther ps m → new m ≡ old m

-- so it is, and none was opened
pub record OnlyWritesAll (tells : Type 0) (ps : List Listed) (old new : Files) (given ids : ℕ → Id) : Type 0 where
  pub others : tells → OnlyAllListed ps old new
  pub kept : (j : ℕ) → ids j ≡ given j

-- each desk can be written
pub record AreReady (ids : ℕ → Id) (ds : List BridgeOutputs) : Type 0 where
  pub each : (b : ℕ) (d : BridgeOutputs) → slice_get ds b ≡ Some d → IsReady d.manifest ids d.outputs

-- at each desk this much is noted
pub record AreNoted (tells : Type 0) (now : Files) (ds : List BridgeOutputs) (dones : Dones) : Type 0 where
  pub each : (b : ℕ) (d : BridgeOutputs) → slice_get ds b ≡ Some d → IsNoted tells now d (dones b)

-- the files of all manifests hold fronts of texts of this
pub record AreAllFronts (ps : List Listed) (now : Files) (dones : Dones) : Type 0 where
  pub each : (b : ℕ) (p : Listed) → slice_get ps b ≡ Some p → AreFronts p now (dones b)

-- what the worlds tell was told since this was
pub record AreMore {V : Type 0} {X : V → Type 0} (told dones : Dones) (nodes : List (Node V X)) : Type 0 where
  pub each : (b : ℕ) (x : Node V X) → slice_get nodes b ≡ Some x → IsMore (told b) (dones b) x.world

-- and what was said of Relays goes with it
pub record AllGoTogether {V : Type 0} {X : V → Type 0} (told : Dones) (nodes : List (Node V X)) : Type 0 where
  pub each : (b : ℕ) (x : Node V X) → slice_get nodes b ≡ Some x → GoTogether (told b).events (told b).passed

-- each desk can note what its world tells
pub record CanNoteAll {V : Type 0} {X : V → Type 0} (ds : List BridgeOutputs) (nodes : List (Node V X)) : Type 0 where
  pub whole : length ds ≡ length nodes
  pub few : length ds ≤ 16
  pub each : (b : ℕ) (d : BridgeOutputs) (x : Node V X) → slice_get ds b ≡ Some d → slice_get nodes b ≡ Some x
      → CanNote d.manifest d.counted x.world

-- ---- the end
-- what was counted at each desk
abbrev pub tallies_in : List BridgeOutputs → List Counts
tallies_in ds = map (λ (d : BridgeOutputs). counts_of d.counted.tally) ds

-- the counters of a desk can be written
pub record CanEnd (d : BridgeOutputs) : Type 0 where
  pub counted : AreCountsOf d.manifest d.counted.ports
  pub sent : AreCountedAt d.manifest d.outputs

-- so can all, and the sums over all desks fit 64 bits
pub record CanEndAll (ds : List BridgeOutputs) : Type 0 where
  pub each : (b : ℕ) (d : BridgeOutputs) → slice_get ds b ≡ Some d → CanEnd d
  pub fits : FitsTally (added (tallies_in ds))
  pub few : (added (tallies_in ds)).relayed + (added (tallies_in ds)).ignored < 2 ^ 64

-- the files of all desks hold the texts of what was done, and of what was counted
pub record AreWhole (ds : List BridgeOutputs) (now : Files) (dones : Dones) : Type 0 where
  pub each : (b : ℕ) (d : BridgeOutputs) → slice_get ds b ≡ Some d
      → IsWhole d.manifest now (text_of (dones b) (counts_text d.manifest d.counted.ports d.outputs))
