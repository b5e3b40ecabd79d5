use Rattle.exb_audit.proofs.TextCuts.{cut_here, cut_none, lacks_more}
use Rattle.exb_audit.proofs.line_words.cut.Goals as goal

pub returns-then-c-byte : goal.returns-then-c-byte
returns-then-c-byte c = cut_here c.args.byte c.args.text.now c.loop-i.i c.loop-i-test.true c.if-c-byte.true c.loop-i.invariant

pub loop-i-preserved : goal.loop-i-preserved
loop-i-preserved c = lacks_more c.args.byte c.args.text.now c.loop-i.i c.loop-i-test.true c.if-c-byte.false c.loop-i.invariant

pub returns : goal.returns
returns c = cut_none c.args.byte c.args.text.now c.loop-i.i c.loop-i-test.false c.loop-i.invariant
