-- What the one bridge sends can be written as a capture, and is read back.
use Rattle.std.specs.Prelude.{ℕ, All}
use Rattle.exb_model.specs.FlatBridge.{flat}
use Rattle.exb_model.specs.History.{Basis, History}
use Rattle.exb_model.specs.LegalHistory.{EachEvent}
use Rattle.exb_trace_spec.specs.InputFrames.{RelayFits}
use Rattle.exb_capture.specs.OutputCaptures.{CanBeWritten}

-- whatever its length: a frame that passes has at most 9,216 bytes
abbrev pub FlatCanBeWritten : Type 0
FlatCanBeWritten = (b : Basis) (h : History) (q : ℕ) → EachEvent RelayFits h → All CanBeWritten (flat b h q)
