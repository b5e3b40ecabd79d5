use Rattle.std.proofs.Common.{◌≡◌, ◌-◌, Some, drop, length}
use Rattle.exb_world_spec.specs.Worlds.{left_at}
use Rattle.exb_outbox.specs.PortMaps.{ports_in}
use Rattle.exb_bridge.specs.BridgeWorlds.{copies_at, copies_of}
use Rattle.exb_net_spec.specs.NetHistory.{crosses}
use Rattle.exb_net.specs.Crossings.{all_crossing}
use Rattle.exb_net.proofs.FrameQueue.{LeadsTo}
use Rattle.exb_net.proofs.crossing.put_row.Given as goal

-- What is left of the ports leads to the whole, and so many are still to be skipped.
abbrev pub invariant-loop-port : goal.invariant-loop-port
invariant-loop-port l = record {
  leads : LeadsTo (all_crossing l.queue.items) (crosses (Some l.end.far) (left_at l.end.port (drop l.skip (copies_at l.frame.moment l.frame.bytes (ports_in l.rest))))) (all_crossing l.fn.queue.items)
      (crosses (Some l.end.far) (left_at l.end.port (drop l.fn.skip (copies_of l.frame))));
  skipped : l.skip - length (copies_at l.frame.moment l.frame.bytes (ports_in l.rest)) ≡ l.fn.skip - length (copies_of l.frame);
}

abbrev pub decreases-loop-port : goal.decreases-loop-port
decreases-loop-port l = l.rest.ports
