-- The headline of a net: what status 0 of it says.
use Rattle.std.specs.Prelude.{◌≡◌, ◌<◌, ◌++◌, ℕ, Bool, true, List, Some, Ok, All, length, slice_get}
use Rattle.exb_counters.specs.Counters.{count_text}
use Rattle.exb_inputs.specs.CaptureChecks.{AreAllGood}
use Rattle.exb_model.specs.FlatBridge.{flat}
use Rattle.exb_model.specs.Texts.{capture_text, journal_text}
use Rattle.exb_model.specs.Tree.{is_external}
use Rattle.exb_net_spec.specs.declared.wires.Wire.{Wire}
use Rattle.exb_net_spec.specs.BridgeHistories.{HoldsAll}
use Rattle.exb_net_spec.specs.NetHistory.{Histories, NetEager, basis_in}
use Rattle.exb_net_file.specs.declared.net_file.NetFile.{NetFile}
use Rattle.exb_net_file.specs.declared.members.NetMember.{NetMember}
use Rattle.exb_net_file.specs.NetFiles.{net_file_of}
use Rattle.exb_net_file.specs.Members.{prefix_of, tree_in}
use Rattle.exb_net_file.specs.Wires.{wires_of}
use Rattle.exb_inputs.specs.NetContents.{HoldsMembers}
use Rattle.exb_shelf.specs.Files.{Files}
use Rattle.exb_journal.specs.FileNames.{capture_name, counters_name, journal_name}
use Rattle.exb_net.specs.Nets.{OnlyNetOutputs, net_of}
use Rattle.exb_net.specs.Summaries.{net_summary}

-- The file of this name holds the file of a net; each topology that it names is there and is one, and the wires join
-- ports of these bridges; each capture that a topology names can be played. There are the histories of the net, one for
-- each bridge: it holds the commands of the bridge and what arrives at each of its ports, each once and in order, and
-- what arrives at a wired port are the moments and frames that leave the far end of its wire. Of each bridge, whose
-- files begin with its name: the file of each external port holds what one VLAN bridge that owns all its ports sends at
-- it over its history; the journal holds the history; the counters, where they are asked for, hold the counts over it,
-- from scratch. No other file has changed; and the summary of the sums over all bridges was printed, and nothing else.
pub record NetHeadline (name : List ℕ) (counters : Bool) (old new : Files) (before after : List ℕ) : Type 0 where
  pub bytes : List ℕ
  pub there : old name ≡ Some bytes
  pub file : NetFile
  pub read : net_file_of bytes ≡ Ok file
  pub bridges : List NetMember
  pub topologies : HoldsMembers file.bridges old bridges
  pub wires : List Wire
  pub wired : wires_of bridges file.wires ≡ Ok wires
  pub readable : All (λ m. AreAllGood m.topology.captures old) bridges
  pub histories : Histories
  pub eager : NetEager (net_of bridges wires old) histories
  pub holds : (b : ℕ) → b < length bridges → HoldsAll (net_of bridges wires old) histories b
  pub captures : (b : ℕ) (m : NetMember) → slice_get bridges b ≡ Some m → (q : ℕ) → is_external (tree_in m) q ≡ true
      → new (capture_name (prefix_of m.name) q)
      ≡ Some (capture_text (flat (basis_in (net_of bridges wires old) b) (histories b) q))
  pub journals : (b : ℕ) (m : NetMember) → slice_get bridges b ≡ Some m → new (journal_name (prefix_of m.name))
      ≡ Some (journal_text (histories b))
  pub counts : counters ≡ true → (b : ℕ) (m : NetMember) → slice_get bridges b ≡ Some m
      → new (counters_name (prefix_of m.name))
      ≡ Some (count_text (tree_in m) (basis_in (net_of bridges wires old) b) (histories b))
  pub others : OnlyNetOutputs counters bridges old new
  pub prints : after ≡ before ++ net_summary (net_of bridges wires old) histories
