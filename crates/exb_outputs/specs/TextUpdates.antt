-- The texts of all kinds with what was told more, and with what is written at the end.
use Rattle.std.specs.Prelude.{ℕ, List, Option}
use Rattle.exb_model.specs.declared.event.Event.{Event}
use Rattle.exb_model.specs.Traces.{TraceLine, trace_text}
use Rattle.exb_outbox.specs.declared.log.Left.{Left}
use Rattle.exb_counters.specs.declared.counters.Counters.{Counters}
use Rattle.exb_journal.specs.declared.file_names.OutputKind.{OutputKind}
use Rattle.exb_journal.specs.declared.file_names.OutputKind.TheVariants as output
use Rattle.exb_outputs.specs.declared.outputs.Outputs.{Outputs}
use Rattle.exb_outputs.specs.Manifests.{Listed}
use Rattle.exb_outputs.specs.WrittenTexts.{lines_of, with_more}
use Rattle.exb_outputs.specs.Counts.{counts_text}
use Rattle.exb_outputs.specs.SentFrames.{with_left_frames}

-- the texts with what was told, has left and was traced more
abbrev pub with_told : (OutputKind → List ℕ) → List Event → List Left → List TraceLine → OutputKind → List ℕ
with_told text told left lines = with_more (with_left_frames (with_more text output.Journal (lines_of told)) left)
    output.Trace (trace_text lines)

-- and with what is written where nothing more is told: the counters
abbrev pub with_end : (OutputKind → List ℕ) → Listed → Option Counters → Outputs → OutputKind → List ℕ
with_end text manifest ports o = with_more text output.Counters (counts_text manifest ports o)
