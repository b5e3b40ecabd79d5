use Rattle.std.proofs.Common.{Some, drop}
use Rattle.exb_world_spec.specs.Worlds.{left_at}
use Rattle.exb_bridge.specs.BridgeWorlds.{all_left}
use Rattle.exb_net_spec.specs.NetHistory.{crosses}
use Rattle.exb_net.specs.Crossings.{all_crossing}
use Rattle.exb_net.proofs.FrameQueue.{LeadsTo}
use Rattle.exb_net.proofs.crossing.send_over.Given as goal

-- What is left of the frames leads to the whole.
abbrev pub invariant-loop-frame : goal.invariant-loop-frame
invariant-loop-frame l =
    LeadsTo (all_crossing l.queue.items) (crosses (Some l.end.far) (left_at l.end.port (drop l.skip (all_left (drop l.frame-index l.left))))) (all_crossing l.fn.queue.items)
    (crosses (Some l.end.far) (left_at l.end.port (drop l.before (all_left l.left))))
