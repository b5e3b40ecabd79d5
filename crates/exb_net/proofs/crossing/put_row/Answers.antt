use Rattle.std.proofs.Common.{◌≡◌, ℕ, List, Some, drop, length, ap, ◌∙◌, arith}
use Rattle.exb_outbox.specs.PortMaps.{ports_in}
use Rattle.exb_bridge.specs.BridgeWorlds.{copies_at, copies_of}
use Rattle.exb_net_spec.specs.NetHistory.{crosses}
use Rattle.exb_world_spec.specs.Worlds.{left_at}
use Rattle.exb_net.specs.Crossings.{all_crossing}
use Rattle.exb_net.proofs.FrameQueue.{no_more, one_port, one_skipped}
use Rattle.exb_net.proofs.crossing.put_row.Goals as goal

pub loop-port-preserved : goal.loop-port-preserved
loop-port-preserved c =
    let end = c.args.end.now in
    let frame = c.args.frame.now in
    let inv = c.loop-port.invariant in
    let put = c.in_ok-put_or_skip.ensures in
    let is = c.in-Some.ensures.some in
    record {
      leads = one_port (all_crossing c.args.queue.now.items) (all_crossing c.loop-port.queue.items) (all_crossing c.put_or_skip.new.queue.items) end.far end.port
          (crosses (Some end.far) (left_at end.port (drop c.args.skip.now (copies_of frame)))) frame.moment frame.bytes c.loop-port.skip c.put_or_skip.new.skip c.in-Some.port (ports_in c.loop-port.rest) (ports_in c.next.new.self) is
          put.skip inv.leads put.put;
      skipped = one_skipped frame.moment frame.bytes c.loop-port.skip c.put_or_skip.new.skip c.in-Some.port (ports_in c.loop-port.rest) (ports_in c.next.new.self) is put.skip ∙ inv.skipped;
    }

pub returns-clause-skip : goal.returns-clause-skip
returns-clause-skip c =
    let frame = c.args.frame.now in
    let none : length (copies_at frame.moment frame.bytes (ports_in c.loop-port.rest)) ≡ 0 = ap (λ (qs : List ℕ). length (copies_at frame.moment frame.bytes qs)) c.in_default.ensures.none in
    let same = c.loop-port.invariant.skipped in
    omega (arith, none, same)

pub returns-clause-put : goal.returns-clause-put
returns-clause-put c =
    let end = c.args.end.now in
    let frame = c.args.frame.now in
    no_more (all_crossing c.loop-port.queue.items) (all_crossing c.args.queue.now.items) (crosses (Some end.far) (left_at end.port (drop c.args.skip.now (copies_of frame)))) end.far end.port c.loop-port.skip
    (copies_at frame.moment frame.bytes (ports_in c.loop-port.rest)) (ap (copies_at frame.moment frame.bytes) c.in_default.ensures.none) c.loop-port.invariant.leads
