use Rattle.std.proofs.Common.{sym}
use Rattle.std.proofs.lemmas.Result.{err_from_is_err_and}
use Rattle.exb_net_file.proofs.LoopSteps.{wires_go_on, wires_end, wires_done}
use Rattle.exb_net_file.proofs.wires.wires_in.Goals as goal

pub returns-in_err-next : goal.returns-in_err-next
returns-in_err-next c =
    let p = err_from_is_err_and c.from_residual.result c.from_residual.ensures.1 in
    rw (p.1, p.2) (wires_end c.args.members.now c.in_err-next.field-0.0 c.loop-index.joined c.args.wires.now c.loop-index.index c.index-wires-index.result c.loop-index-test.true (sym c.index-wires-index.is) (rw c.as_slice.ensures at c.in_err-next.ensures.value) c.loop-index.invariant.so_far)

pub loop-index-preserved : goal.loop-index-preserved
loop-index-preserved c = record {
  so_far = rw c.in_ok-push.ensures.ok (wires_go_on c.args.members.now c.loop-index.joined c.args.wires.now c.loop-index.index c.index-wires-index.result c.in_ok-next.next c.loop-index-test.true (sym c.index-wires-index.is) (rw c.as_slice.ensures at c.in_ok-next.ensures.value) c.loop-index.invariant.so_far);
  kept = rw c.in_ok-push.ensures.ok (rw c.as_slice.ensures at c.in_ok-next.ensures.ends);
}

pub returns : goal.returns
returns c = wires_done c.args.members.now c.loop-index.joined c.args.wires.now c.loop-index.index c.loop-index-test.false c.loop-index.invariant.so_far
