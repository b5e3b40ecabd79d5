use Rattle.std.proofs.Common.{sym}
use Rattle.std.proofs.lemmas.Result.{err_from_is_err_and}
use Rattle.exb_topology.specs.Checks.{capture_ok}
use Rattle.exb_topology.proofs.ElementChecks.{goes_on, ends, is_done}
use Rattle.exb_topology.proofs.checks.check_captures.Goals as goal

pub returns-in_err-check_capture : goal.returns-in_err-check_capture
returns-in_err-check_capture c =
    let p = err_from_is_err_and c.from_residual.result c.from_residual.ensures.1 in
    rw (p.1, p.2) (ends (capture_ok c.args.tree.now) c.in_err-check_capture.field-0.0 c.args.captures.now c.loop-capture.capture-index c.capture-item.result c.loop-capture-test.true (sym c.capture-item.is) c.in_err-check_capture.ensures c.loop-capture.invariant)

pub loop-capture-preserved : goal.loop-capture-preserved
loop-capture-preserved c =
    goes_on (capture_ok c.args.tree.now) c.args.captures.now c.loop-capture.capture-index c.capture-item.result c.loop-capture-test.true (sym c.capture-item.is) c.in_ok-check_capture.ensures c.loop-capture.invariant

pub returns : goal.returns
returns c = is_done (capture_ok c.args.tree.now) c.args.captures.now c.loop-capture.capture-index c.loop-capture-test.false c.loop-capture.invariant
