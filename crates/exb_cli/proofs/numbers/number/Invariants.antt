use Rattle.exb_cli.proofs.Digits.{IsRead}
use Rattle.exb_cli.proofs.numbers.number.Given as goal

abbrev pub invariant-loop-digit : goal.invariant-loop-digit
invariant-loop-digit l = IsRead l.word l.digit-index l.number
