use Rattle.std.proofs.Common.{◌≡◌, take, drop}
use Rattle.exb_toml_keys.specs.TextValues.{cut}
use Rattle.exb_toml_keys.proofs.TextSplits.{after_front}
use Rattle.exb_toml_keys.proofs.text_values.cut.Given as goal

abbrev pub invariant-loop-i : goal.invariant-loop-i
invariant-loop-i l = after_front (take l.i l.text) (cut l.byte (drop l.i l.text)) ≡ cut l.byte l.text
