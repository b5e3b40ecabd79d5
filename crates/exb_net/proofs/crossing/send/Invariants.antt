use Rattle.std.proofs.Common.{drop}
use Rattle.exb_bridge.specs.BridgeWorlds.{all_left}
use Rattle.exb_net.specs.Crossings.{all_crossing}
use Rattle.exb_net.specs.WiredPorts.{sent_over}
use Rattle.exb_net.proofs.FrameQueue.{LeadsTo}
use Rattle.exb_net.proofs.crossing.send.Given as goal

-- What is left of the ends leads to the whole.
abbrev pub invariant-loop-end : goal.invariant-loop-end
invariant-loop-end l = LeadsTo (all_crossing l.queue.items) (sent_over (drop l.before (all_left l.left)) (drop l.end-index l.ends)) (all_crossing l.fn.queue.items) (sent_over (drop l.before (all_left l.left)) l.ends)
