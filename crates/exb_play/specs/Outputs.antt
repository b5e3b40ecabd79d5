-- What a run has written of a manifest, all of it: the text of each kind over a history that its input allows.
use Rattle.std.specs.Prelude.{◌≡◌, ℕ, true, List, All}
use Rattle.exb_model.specs.EagerHistory.{eager as eager_history}
use Rattle.exb_model.specs.History.{History}
use Rattle.exb_model.specs.Input.{Input, Mode, Eager, basis_of, tree_of}
use Rattle.exb_model.specs.LegalHistory.{EachEvent, Legal}
use Rattle.exb_model.specs.Setup.{IsValid}
use Rattle.exb_model.specs.Texts.{summary}
use Rattle.exb_model.specs.Traces.{TraceLine}
use Rattle.exb_shelf.specs.Files.{Files, Filled}
use Rattle.exb_trace_spec.specs.LegalTrace.{LegalTrace}
use Rattle.exb_trace_spec.specs.InputFrames.{RelayFits, frames_in, frames_out}
use Rattle.exb_trace_spec.specs.WritableLines.{HasBytes}
use Rattle.exb_trace_spec.specs.RoundTrips.{IsOfNumbers}
use Rattle.exb_trace_spec.specs.JournalLines.{journal_of}
use Rattle.exb_outputs.specs.Manifests.{Listed, kind_at, output_count, output_name}
use Rattle.exb_outputs.specs.KindTexts.{output_text}

-- a legal trace of a history, of the frames of the captures, and of those that the one flat bridge sends
abbrev pub IsTraceOf : Input → History → List TraceLine → Type 0
IsTraceOf i h lines = LegalTrace (tree_of i) (journal_of h) (frames_in i) (frames_out i h) lines

-- What else is known of a history that was played: its setup is valid, its ports are ports and its numbers have 64
-- bits, and the moments of its Relays are such as a capture can hold. So what was written of it can be read back.
pub record CanBeReadBack (i : Input) (h : History) : Type 0 where
  pub valid : IsValid i.setup
  pub numbers : All IsOfNumbers h
  pub moments : EachEvent RelayFits h

-- they hold it, and this is the summary
pub record HasPlayed (m : Mode) (i : Input) (manifest : Listed) (old new : Files) (line : List ℕ) : Type 0 where
  pub history : History
  pub lines : List TraceLine
  pub legal : Legal m i history
  pub eager : m ≡ Eager → history ≡ eager_history i
  pub back : CanBeReadBack i history
  pub trace : manifest.options.trace ≡ true → IsTraceOf i history lines
  pub bytes : All HasBytes lines
  pub outputs : Filled old new (output_count manifest) (output_name manifest) (λ j bytes.
      bytes ≡ output_text i history lines (kind_at manifest j))
  pub says : line ≡ summary (tree_of i) (basis_of i) history
