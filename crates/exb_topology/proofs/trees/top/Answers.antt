use Rattle.exb_model.proofs.Validity.{top_more, top_here, top_end}
use Rattle.exb_model.specs.Tree.{top}
use Rattle.exb_topology.proofs.trees.top.Goals as goal

pub returns-then-at-lt64 : goal.returns-then-at-lt64
returns-then-at-lt64 c = top_here c.args.on.now c.loop-step._step c.loop-step.at (top c.args.on.now 63 c.args.port) c.loop-step-test.true c.if-at-lt64.true c.loop-step.invariant.same

pub loop-step-preserved : goal.loop-step-preserved
loop-step-preserved c = record {
  fits = c.requires.fits _;
  same = top_more c.args.on.now c.loop-step._step c.loop-step.at (top c.args.on.now 63 c.args.port) c.loop-step-test.true c.if-at-lt64.false c.loop-step.invariant.same;
}

pub returns : goal.returns
returns c = top_end c.args.on.now c.loop-step._step c.loop-step.at (top c.args.on.now 63 c.args.port) c.loop-step-test.false c.loop-step.invariant.same
