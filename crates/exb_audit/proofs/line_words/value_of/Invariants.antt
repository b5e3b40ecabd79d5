use Rattle.std.proofs.Common.{◌≡◌, true, drop}
use Rattle.std.specs.Str.{all_ascii_digits}
use Rattle.std.specs.Str.Parse.{digits_value, digits_value_after}
use Rattle.exb_audit.proofs.line_words.value_of.Given as goal

abbrev pub invariant-loop-c : goal.invariant-loop-c
invariant-loop-c l = (all_ascii_digits (drop l.c-index l.digits) ≡ true) × (digits_value_after 10 l.value (drop l.c-index l.digits) ≡ digits_value 10 l.digits)
