use Rattle.std.proofs.Common.{drop}
use Rattle.exb_bridge.specs.BridgeWorlds.{all_left}
use Rattle.exb_net.specs.Crossings.{all_crossing}
use Rattle.exb_net.proofs.FrameQueue.{all_ends, one_end}
use Rattle.exb_net.proofs.crossing.send.Goals as goal

pub loop-end-preserved : goal.loop-end-preserved
loop-end-preserved c =
    one_end (all_crossing c.args.queue.now.items) (all_crossing c.loop-end.queue.items) (all_crossing c.send_over.new.queue.items) (drop c.args.before (all_left c.args.left.now)) c.args.ends.now c.loop-end.end-index c.end-item.result c.loop-end-test.true c.end-item.is
    c.loop-end.invariant c.in_ok-send_over.ensures

pub returns : goal.returns
returns c =
    all_ends (all_crossing c.args.queue.now.items) (all_crossing c.loop-end.queue.items) (all_crossing c.loop-end.queue.items) (drop c.args.before (all_left c.args.left.now)) c.args.ends.now c.loop-end.end-index c.loop-end-test.false c.loop-end.invariant
