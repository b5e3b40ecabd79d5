use Rattle.std.proofs.Common.{Some, drop, ap}
use Rattle.std.proofs.lemmas.List.{drop_all}
use Rattle.exb_bridge.specs.BridgeWorlds.{all_left}
use Rattle.exb_net_spec.specs.NetHistory.{crosses}
use Rattle.exb_world_spec.specs.Worlds.{left_at}
use Rattle.exb_net.specs.Crossings.{all_crossing}
use Rattle.exb_net.proofs.FrameQueue.{no_more, one_row}
use Rattle.exb_net.proofs.crossing.send_over.Goals as goal

pub loop-frame-preserved : goal.loop-frame-preserved
loop-frame-preserved c =
    let end = c.args.end.now in
    one_row (all_crossing c.args.queue.now.items) (all_crossing c.loop-frame.queue.items) (all_crossing c.put_row.new.queue.items) end.far end.port
    (crosses (Some end.far) (left_at end.port (drop c.args.before (all_left c.args.left.now)))) c.args.left.now c.loop-frame.frame-index c.loop-frame.skip c.put_row.new.skip c.frame-item.result
    c.loop-frame-test.true c.frame-item.is c.in_ok-put_row.ensures.skip c.loop-frame.invariant c.in_ok-put_row.ensures.put

pub returns : goal.returns
returns c =
    let end = c.args.end.now in
    no_more (all_crossing c.loop-frame.queue.items) (all_crossing c.args.queue.now.items) (crosses (Some end.far) (left_at end.port (drop c.args.before (all_left c.args.left.now)))) end.far end.port c.loop-frame.skip
    (all_left (drop c.loop-frame.frame-index c.args.left.now)) (ap all_left (drop_all c.loop-frame.frame-index c.args.left.now c.loop-frame-test.false)) c.loop-frame.invariant
