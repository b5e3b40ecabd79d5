-- What a run writes: the capture of each external port, the journal, the trace and the counters where they are asked
-- for, and the summary line.
use Rattle.std.specs.Prelude.{◌≡◌, ℕ, true, List, Option, Some, All}
use Rattle.exb_model.specs.EagerHistory.{eager as eager_history}
use Rattle.exb_model.specs.FlatBridge.{flat}
use Rattle.exb_model.specs.History.{History}
use Rattle.exb_model.specs.Input.{Input, Mode, Eager, basis_of, tree_of}
use Rattle.exb_model.specs.LegalHistory.{Legal}
use Rattle.exb_model.specs.Texts.{capture_text, journal_text, summary}
use Rattle.exb_model.specs.Traces.{TraceLine, trace_text}
use Rattle.exb_model.specs.Tree.{is_external}
use Rattle.exb_shelf.specs.Files.{Files}
use Rattle.exb_journal.specs.FileNames.{capture_name, counters_name, journal_name, trace_name}
use Rattle.exb_counters.specs.Counters.{count_text}
use Rattle.exb_cli.specs.declared.invocations.Options.{Options}
use Rattle.exb_trace_spec.specs.WritableLines.{HasBytes}
use Rattle.exb_outputs.specs.OutputNames.{AreWhole, OnlyOutputs, IsCut}
use Rattle.exb_outputs.specs.KindTexts.{output_text}
use Rattle.exb_play.specs.Outputs.{IsTraceOf, CanBeReadBack}

-- a file holds such a trace, whose frames are bytes
pub record IsTraced (i : Input) (h : History) (file : Option (List ℕ)) : Type 0 where
  pub lines : List TraceLine
  pub is : file ≡ Some (trace_text lines)
  pub legal : IsTraceOf i h lines
  pub bytes : All HasBytes lines

-- All was played and written under a prefix, and this line sums it up: the file of each external port is what the one
-- flat bridge sends at it over a history that the input allows, which in an eager run is the eager history; the journal
-- is that history, the counters are those of it, and the trace is legal; and so the file of each kind that is made
-- holds its text over that history.
pub record IsPlayed (m : Mode) (options : Options) (i : Input) (prefix : List ℕ) (old new : Files)
    (line : List ℕ) : Type 0 where
  pub history : History
  pub legal : Legal m i history
  pub eager : m ≡ Eager → history ≡ eager_history i
  pub captures : (q : ℕ) → is_external (tree_of i) q ≡ true → new (capture_name prefix q)
      ≡ Some (capture_text (flat (basis_of i) history q))
  pub journal : new (journal_name prefix) ≡ Some (journal_text history)
  pub back : CanBeReadBack i history
  pub trace : options.trace ≡ true → IsTraced i history (new (trace_name prefix))
  pub counters : options.counters ≡ true → new (counters_name prefix)
      ≡ Some (count_text (tree_of i) (basis_of i) history)
  pub files : (lines : List TraceLine) × AreWhole options (tree_of i) prefix new (output_text i history lines)
  pub others : OnlyOutputs options (tree_of i) prefix old new
  pub says : line ≡ summary (tree_of i) (basis_of i) history

-- The file of each external port and the journal are as they were, or hold a front of their text over the eager
-- history.
pub record AreFrontsOf (i : Input) (prefix : List ℕ) (old new : Files) : Type 0 where
  pub captures : (q : ℕ) → is_external (tree_of i) q ≡ true
      → IsCut (old (capture_name prefix q)) (new (capture_name prefix q))
      (capture_text (flat (basis_of i) (eager_history i) q))
  pub journal : IsCut (old (journal_name prefix)) (new (journal_name prefix)) (journal_text (eager_history i))
