use Rattle.std.proofs.Common.{◌∙◌, sym}
use Rattle.std.proofs.lemmas.Bool.{eqb-true}
use Rattle.exb_cli.proofs.Digits.{number-empty, number-long, read-none, read-no_digit, read-large, read-more, read-end}
use Rattle.exb_cli.proofs.numbers.number.Goals as goal
use Rattle.exb_cli.proofs.numbers.number.Goals.{then-is_empty-via-then-is_empty, then-is_empty-via-else-is_empty+then-word-gt-MAX_DIGITS}

pub returns-then-is_empty : goal.returns-then-is_empty
returns-then-is_empty c =
    elim c.then-is_empty.branch [
      | then-is_empty-via-then-is_empty w ↦ number-empty c.args.word.now (eqb-true _ 0 (sym c.is_empty.ensures ∙ w.if-is_empty.true))
      | then-is_empty-via-else-is_empty+then-word-gt-MAX_DIGITS w ↦ number-long c.args.word.now w.if-word-gt-MAX_DIGITS.true
    ]

pub returns-then-not-is_ascii_digit : goal.returns-then-not-is_ascii_digit
returns-then-not-is_ascii_digit c = read-no_digit c.args.word.now c.loop-digit.digit-index c.loop-digit.number c.loop-digit.invariant c.loop-digit-test.true (sym c.is_ascii_digit.ensures.value ∙ c.if-not-is_ascii_digit.true)

pub loop-digit-init : goal.loop-digit-init
loop-digit-init c = read-none c.args.word.now (sym c.is_empty.ensures ∙ c.if-is_empty.false) c.if-word-gt-MAX_DIGITS.false

pub loop-digit-preserved : goal.loop-digit-preserved
loop-digit-preserved c =
    read-more c.args.word.now c.loop-digit.digit-index c.loop-digit.number c.in-Some.longer c.loop-digit.invariant c.loop-digit-test.true
    (sym c.is_ascii_digit.ensures.value ∙ c.if-not-is_ascii_digit.false) (sym c.in-Some.is ∙ c.with_digit.ensures)

pub returns : goal.returns
returns c = read-end c.args.word.now c.loop-digit.digit-index c.loop-digit.number c.loop-digit.invariant c.loop-digit-test.false

pub returns-in-None : goal.returns-in-None
returns-in-None c =
    read-large c.args.word.now c.loop-digit.digit-index c.loop-digit.number c.loop-digit.invariant c.loop-digit-test.true
    (sym c.is_ascii_digit.ensures.value ∙ c.if-not-is_ascii_digit.false) (sym c.in-None.is ∙ c.with_digit.ensures)
