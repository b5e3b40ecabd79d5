use Rattle.std.proofs.Common.{arith}
use Rattle.exb_world.proofs.ExtenderEgress.{counted_more}
use Rattle.exb_world.proofs.left_count.count_left.Goals as goal

pub loop-frame-preserved : goal.loop-frame-preserved
loop-frame-preserved c =
    let before = c.loop-frame.invariant in
    let few = c.count-in-loop-frame.ensures.few in
    let most = before.1 in (
      counted_more c.args.left.now c.loop-frame.frame-index c.frame-item-in-loop-frame.result c.loop-frame-test.true c.frame-item-in-loop-frame.is c.loop-frame.total c.count-in-loop-frame.result before.0 c.count-in-loop-frame.ensures.ports,
      omega (arith, few, most),
    )
