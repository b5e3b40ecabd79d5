use Rattle.exb_toml_keys.specs.TextValues.{cut}
use Rattle.exb_toml_keys.proofs.TextSplits.{none_before, cut_here, cut_more, cut_end}
use Rattle.exb_toml_keys.proofs.text_values.cut.Goals as goal

pub loop-i-init : goal.loop-i-init
loop-i-init c = none_before (cut c.args.byte c.args.text.now)

pub returns-then-c-byte : goal.returns-then-c-byte
returns-then-c-byte c = cut_here c.args.byte c.args.text.now c.loop-i.i c.loop-i-test.true c.if-c-byte.true c.loop-i.invariant

pub loop-i-preserved : goal.loop-i-preserved
loop-i-preserved c = cut_more c.args.byte c.args.text.now c.loop-i.i c.loop-i-test.true c.if-c-byte.false c.loop-i.invariant

pub returns : goal.returns
returns c = cut_end c.args.byte c.args.text.now c.loop-i.i c.loop-i-test.false c.loop-i.invariant
