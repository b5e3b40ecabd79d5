use Rattle.std.proofs.Common.{◌∙◌, sym}
use Rattle.exb_toml_keys.proofs.FateLetters.{goes_on, ends, is_done}
use Rattle.exb_toml_keys.proofs.text_values.fate_of.Goals as goal

pub returns-in-None : goal.returns-in-None
returns-in-None c = ends c.loop-letter.fate c.args.text.now c.loop-letter.letter-index c.loop-letter-test.true (sym c.verdict_of.ensures ∙ c.in-None.is) c.loop-letter.invariant

pub loop-letter-preserved : goal.loop-letter-preserved
loop-letter-preserved c =
    rw c.in_ok-push-in-Some.ensures.ok (goes_on c.loop-letter.fate c.args.text.now c.loop-letter.letter-index c.in-Some.verdict c.loop-letter-test.true (sym c.verdict_of.ensures ∙ c.in-Some.is) c.loop-letter.invariant)

pub returns : goal.returns
returns c = is_done c.loop-letter.fate c.args.text.now c.loop-letter.letter-index c.loop-letter-test.false c.loop-letter.invariant
