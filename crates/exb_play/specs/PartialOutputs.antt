-- What a run leaves of a manifest, however it ended: fronts of the texts of what it told so far.
use Rattle.std.specs.Prelude.{◌≡◌, ◌⊎◌, true, List}
use Rattle.exb_model.specs.History.{History}
use Rattle.exb_model.specs.Input.{Input, Mode}
use Rattle.exb_model.specs.Traces.{TraceLine}
use Rattle.exb_outputs.specs.Manifests.{Listed}
use Rattle.exb_outputs.specs.WrittenTexts.{first_text}
use Rattle.exb_shelf.specs.Files.{Files}
use Rattle.exb_trace_laws.specs.TracePrefixes.{IsHistorySoFar, IsTraceSoFar}
use Rattle.exb_outputs.specs.KindTexts.{output_text, AreCutAlong}

-- these texts are those of one history of the first segments of the input, and of a trace of it
pub record IsCutSoFar (m : Mode) (i : Input) (manifest : Listed) (old new : Files) : Type 0 where
  pub history : History
  pub lines : List TraceLine
  pub told : IsHistorySoFar m i history
  pub traced : manifest.options.trace ≡ true → IsTraceSoFar i history lines
  pub cut : AreCutAlong manifest old new (output_text i history lines)

-- they are what the outputs begin with, or those of a history so far
abbrev pub AreCutSoFar : Mode → Input → Listed → Files → Files → Type 0
AreCutSoFar m i manifest old new = AreCutAlong manifest old new first_text ⊎ IsCutSoFar m i manifest old new
