use Rattle.std.proofs.Common.{◌+◌, ◌++◌, ap}
use Rattle.exb_outbox.specs.PortMaps.{ports_in}
use Rattle.exb_outbox.specs.Logs.{row_outs}
use Rattle.exb_outbox.proofs.OutputLines.{outs_end, outs_next}
use Rattle.exb_outbox.proofs.log.put_row.Goals as goal

pub loop-port-preserved : goal.loop-port-preserved
loop-port-preserved c =
    outs_next c.args.frame.now (ports_in c.loop-port.rest) (ports_in c.next.new.self) c.in-Some.port c.device.result (c.place.result + 1) c.loop-port.outs.items c.put_out.new.outs.items
    (c.args.outs.now.items ++ row_outs c.args.frame.now (ports_in c.args.row)) c.in-Some.ensures.some c.device.ensures.value (ap (λ n. n + 1) c.place.ensures.value) c.in_ok-put_out.ensures c.loop-port.invariant

pub returns : goal.returns
returns c =
    outs_end c.args.frame.now (ports_in c.loop-port.rest) c.loop-port.outs.items (c.args.outs.now.items ++ row_outs c.args.frame.now (ports_in c.args.row)) c.in_default.ensures.none c.loop-port.invariant
