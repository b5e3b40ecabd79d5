use Rattle.exb_model.proofs.Validity.{top_more, top_here, top_end}
use Rattle.exb_model.specs.Tree.{top}
use Rattle.exb_model.proofs.layout.Layout.top.Goals as goal

pub returns-then-at-lt64 : goal.returns-then-at-lt64
returns-then-at-lt64 c = top_here c.args.self.now.on c.loop-step._step c.loop-step.at (top c.args.self.now.on 63 c.args.port) c.loop-step-test.true c.if-at-lt64.true c.loop-step.invariant.same

pub loop-step-preserved : goal.loop-step-preserved
loop-step-preserved c = record {
  fits = c.on-at.ensures.range;
  same = rw c.on-at.ensures.value (top_more c.args.self.now.on c.loop-step._step c.loop-step.at (top c.args.self.now.on 63 c.args.port) c.loop-step-test.true c.if-at-lt64.false c.loop-step.invariant.same);
}

pub returns : goal.returns
returns c = top_end c.args.self.now.on c.loop-step._step c.loop-step.at (top c.args.self.now.on 63 c.args.port) c.loop-step-test.false c.loop-step.invariant.same
