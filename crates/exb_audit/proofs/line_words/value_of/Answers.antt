use Rattle.exb_audit.proofs.JournalLines.{too_large}
use Rattle.exb_audit.proofs.line_words.value_of.Goals as goal

pub returns-in_default-clause-none : goal.returns-in_default-clause-none
returns-in_default-clause-none c = too_large c.args.digits.now c.loop-c.c-index c.loop-c.value c.loop-c-test.true c.loop-c.invariant.1 c.in_default.ensures.none
