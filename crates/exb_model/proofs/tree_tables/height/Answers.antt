use Rattle.std.proofs.Common.{◌-◌, arith, refl}
use Rattle.exb_model.proofs.TreeLoops.{counted_more, counted_last, counted_out, path_up}
use Rattle.exb_model.proofs.tree_tables.height.Goals as goal

pub loop-step-init : goal.loop-step-init
loop-step-init c = (c.requires, omega arith, rw path_up refl)

pub returns-then-at-lt64 : goal.returns-then-at-lt64
returns-then-at-lt64 c =
    omega (arith, c.loop-step.invariant.2, counted_last c.args.layout.now.on (64 - c.loop-step._step) c.loop-step.at c.if-at-lt64.true)

pub loop-step-preserved : goal.loop-step-preserved
loop-step-preserved c =
    let i = c.loop-step._step in
    let more = counted_more c.args.layout.now.on i c.loop-step.at c.loop-step-test.true c.if-at-lt64.false in
    (c.on-at.ensures.range, omega (arith, c.loop-step.invariant.1), omega (arith, c.loop-step.invariant.2, rw (← c.on-at.ensures.value) at more))

pub returns : goal.returns
returns c =
    omega (arith, c.loop-step.invariant.2, counted_out c.args.layout.now.on c.loop-step._step c.loop-step.at c.loop-step-test.false)
