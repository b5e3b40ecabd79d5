-- How the line of a frame in a trace begins.
use Rattle.std.specs.Prelude.{ℕ, List, ◌++◌, codes}
use Rattle.exb_model.specs.Traces.{device_text, side_text}

-- the way, the device and the side, each followed by a space
abbrev pub head_text : List ℕ → ℕ → ℕ → List ℕ
head_text way n k = way ++ codes " " ++ device_text n ++ codes " " ++ side_text k ++ codes " "
