use Rattle.std.proofs.Common.{◌≡◌, ◌==◌, false, take}
use Rattle.std.specs.Prelude.{All}
use Rattle.exb_audit.proofs.line_words.cut.Given as goal

abbrev pub invariant-loop-i : goal.invariant-loop-i
invariant-loop-i l = All (λ x. (x == l.byte) ≡ false) (take l.i l.text)
