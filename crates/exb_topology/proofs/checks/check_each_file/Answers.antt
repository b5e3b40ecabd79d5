use Rattle.std.proofs.Common.{sym}
use Rattle.std.proofs.lemmas.Result.{err_from_is_err_and}
use Rattle.exb_topology.specs.Checks.{file_ok, output_names}
use Rattle.exb_topology.proofs.ElementChecks.{goes_on, ends, is_done}
use Rattle.exb_topology.proofs.checks.check_each_file.Goals as goal

pub returns-in_err-check_file : goal.returns-in_err-check_file
returns-in_err-check_file c =
    let p = err_from_is_err_and c.from_residual.result c.from_residual.ensures.1 in
    rw (p.1, p.2) (λ t is. ends (file_ok (output_names c.args.prefix.now t)) c.in_err-check_file.field-0.0 c.args.captures.now c.loop-capture.capture-index c.capture-item.result c.loop-capture-test.true (sym c.capture-item.is) (c.in_err-check_file.ensures t is) (c.loop-capture.invariant t is))

pub loop-capture-preserved : goal.loop-capture-preserved
loop-capture-preserved c =
    λ t is. goes_on (file_ok (output_names c.args.prefix.now t)) c.args.captures.now c.loop-capture.capture-index c.capture-item.result c.loop-capture-test.true (sym c.capture-item.is) (c.in_ok-check_file.ensures t is) (c.loop-capture.invariant t is)

pub returns : goal.returns
returns c = λ t is. is_done (file_ok (output_names c.args.prefix.now t)) c.args.captures.now c.loop-capture.capture-index c.loop-capture-test.false (c.loop-capture.invariant t is)
