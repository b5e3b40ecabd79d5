-- What the files of a net hold once it was played, and where its run ended early.
use Rattle.std.specs.Prelude.{◌≡◌, ℕ, Bool, true, List, Some, slice_get}
use Rattle.exb_counters.specs.Counters.{count_text}
use Rattle.exb_model.specs.FlatBridge.{flat}
use Rattle.exb_model.specs.History.{History}
use Rattle.exb_model.specs.Input.{Input, basis_of, tree_of}
use Rattle.exb_model.specs.Texts.{capture_text, journal_text}
use Rattle.exb_model.specs.Tree.{is_external}
use Rattle.exb_net_spec.specs.Nets.{Net}
use Rattle.exb_net_spec.specs.NetHistory.{Histories, NetEager}
use Rattle.exb_net_file.specs.declared.members.NetMember.{NetMember}
use Rattle.exb_net_file.specs.Members.{prefix_of}
use Rattle.exb_outputs.specs.OutputNames.{IsCut}
use Rattle.exb_shelf.specs.Files.{Files}
use Rattle.exb_journal.specs.FileNames.{capture_name, counters_name, journal_name}
use Rattle.exb_net.specs.Nets.{OnlyNetOutputs}
use Rattle.exb_net.specs.Summaries.{net_summary}

-- ---- one bridge
-- Its files under a prefix are those of its history: the file of each external port holds what one VLAN bridge that
-- owns all its ports sends at it, the journal the history, and the counters, where they are asked for, the counts over
-- it.
pub record IsWritten (counters : Bool) (i : Input) (h : History) (prefix : List ℕ) (file : Files) : Type 0 where
  pub captures : (q : ℕ) → is_external (tree_of i) q ≡ true → file (capture_name prefix q)
      ≡ Some (capture_text (flat (basis_of i) h q))
  pub journal : file (journal_name prefix) ≡ Some (journal_text h)
  pub counts : counters ≡ true → file (counters_name prefix) ≡ Some (count_text (tree_of i) (basis_of i) h)

-- Its captures and its journal are as they were, or hold a front of that.
pub record IsFrontOf (i : Input) (h : History) (prefix : List ℕ) (old new : Files) : Type 0 where
  pub captures : (q : ℕ) → is_external (tree_of i) q ≡ true
      → IsCut (old (capture_name prefix q)) (new (capture_name prefix q)) (capture_text (flat (basis_of i) h q))
  pub journal : IsCut (old (journal_name prefix)) (new (journal_name prefix)) (journal_text h)

-- ---- all bridges
-- All was played and written, and this line sums it up: there are the histories of the net, the files of each bridge
-- are those of its history, and no other file has changed.
pub record IsNetPlayed (counters : Bool) (ms : List NetMember) (n : Net) (old new : Files) (line : List ℕ) : Type 0
  where
    pub histories : Histories
    pub eager : NetEager n histories
    pub written : (b : ℕ) (m : NetMember) → slice_get ms b ≡ Some m
        → IsWritten counters (n.input b) (histories b) (prefix_of m.name) new
    pub others : OnlyNetOutputs counters ms old new
    pub says : line ≡ net_summary n histories

-- However it ended: there are the histories of the net, and each capture and each journal is as it was or holds a front
-- of its text over the history of its bridge.
pub record AreNetFronts (ms : List NetMember) (n : Net) (old new : Files) : Type 0 where
  pub histories : Histories
  pub eager : NetEager n histories
  pub fronts : (b : ℕ) (m : NetMember) → slice_get ms b ≡ Some m
      → IsFrontOf (n.input b) (histories b) (prefix_of m.name) old new
