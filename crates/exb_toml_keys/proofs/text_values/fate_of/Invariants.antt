use Rattle.std.proofs.Common.{◌≡◌, drop}
use Rattle.exb_toml_keys.specs.TextValues.{fate_of}
use Rattle.exb_toml_keys.proofs.FateLetters.{after_these}
use Rattle.exb_toml_keys.proofs.text_values.fate_of.Given as goal

abbrev pub invariant-loop-letter : goal.invariant-loop-letter
invariant-loop-letter l = after_these l.fate (fate_of (drop l.letter-index l.text)) ≡ fate_of l.text
