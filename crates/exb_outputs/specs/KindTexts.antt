-- What stands in the file of each kind: after what was told and has left so far, and over a history.
use Rattle.std.specs.Prelude.{[], ◌<◌, ℕ, List}
use Rattle.exb_model.specs.EagerHistory.{eager as eager_history}
use Rattle.exb_model.specs.FlatBridge.{flat}
use Rattle.exb_model.specs.History.{History, ◌then◌}
use Rattle.exb_model.specs.Input.{Input, basis_of, tree_of}
use Rattle.exb_model.specs.Texts.{capture_text, journal_text}
use Rattle.exb_model.specs.Traces.{TraceLine, trace_text}
use Rattle.exb_shelf.specs.Files.{Files}
use Rattle.exb_journal.specs.declared.file_names.OutputKind.{OutputKind}
use Rattle.exb_journal.specs.declared.file_names.OutputKind.TheVariants as output
use Rattle.exb_counters.specs.Counters.{count_text}
use Rattle.exb_outputs.specs.Manifests.{Listed, kind_at, output_count, output_name}
use Rattle.exb_outputs.specs.OutputNames.{IsCut}
use Rattle.exb_model.specs.declared.event.Event.{Event}
use Rattle.exb_world_spec.specs.Worlds.{Left, left_at}

-- ---- the outputs of a manifest
-- what a file holds over a history, by its kind, with these lines of the trace
abbrev pub output_text : Input → History → List TraceLine → OutputKind → List ℕ
output_text i h lines (output.Capture q) = capture_text (flat (basis_of i) h q)
output_text i h lines output.Journal = journal_text h
output_text i h lines output.Trace = trace_text lines
output_text i h lines output.Counters = count_text (tree_of i) (basis_of i) h

-- a kind whose text over the eager history is written as it happens
abbrev pub GrowsEagerly : OutputKind → Type 0
GrowsEagerly (output.Capture q) = Unit {0}
GrowsEagerly output.Journal = Unit {0}
GrowsEagerly output.Trace = ⊥
GrowsEagerly output.Counters = ⊥

-- these are as they were, or hold a front of their text over the eager history
abbrev pub AreCutEagerly : Input → Listed → Files → Files → Type 0
AreCutEagerly i manifest old new =
    (j : ℕ) → j < output_count manifest → GrowsEagerly (kind_at manifest j)
    → IsCut (old (output_name manifest j)) (new (output_name manifest j))
    (output_text i (eager_history i) [] (kind_at manifest j))

-- a kind that is written as things happen; the counters are written at the end
abbrev pub IsWrittenAlong : OutputKind → Type 0
IsWrittenAlong (output.Capture q) = Unit {0}
IsWrittenAlong output.Journal = Unit {0}
IsWrittenAlong output.Trace = Unit {0}
IsWrittenAlong output.Counters = ⊥

-- ---- the outputs of a manifest
-- each that is written along is as it was, or holds a front of its text
abbrev pub AreCutAlong : Listed → Files → Files → (OutputKind → List ℕ) → Type 0
AreCutAlong manifest old new text = (j : ℕ) → j < output_count manifest → IsWrittenAlong (kind_at manifest j)
    → IsCut (old (output_name manifest j)) (new (output_name manifest j)) (text (kind_at manifest j))

-- ---- what is told
-- the text of each kind after this was told and this has left; counters have theirs at the end
abbrev pub text_so_far : List Event → List Left → List TraceLine → List ℕ → OutputKind → List ℕ
text_so_far told gone lines counts (output.Capture q) = capture_text (left_at q gone)
text_so_far told gone lines counts output.Journal = journal_text ([] then told)
text_so_far told gone lines counts output.Trace = trace_text lines
text_so_far told gone lines counts output.Counters = counts
