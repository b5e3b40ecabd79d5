use Rattle.std.proofs.Common.{sym}
use Rattle.std.proofs.lemmas.Result.{err_from_is_err_and}
use Rattle.exb_topology.proofs.ElementChecks.{goes_on, ends, is_done}
use Rattle.exb_net_file.specs.NetFiles.{name_ok}
use Rattle.exb_net_file.proofs.net_file.check_names.Goals as goal

pub returns-in_err-check_name : goal.returns-in_err-check_name
returns-in_err-check_name c =
    let p = err_from_is_err_and c.from_residual.result c.from_residual.ensures.1 in
    rw (p.1, p.2) (ends name_ok c.in_err-check_name.field-0.0 c.args.bridges.now c.loop-index.index c.index-bridges-index.result c.loop-index-test.true (sym c.index-bridges-index.is) c.in_err-check_name.ensures c.loop-index.invariant)

pub loop-index-preserved : goal.loop-index-preserved
loop-index-preserved c =
    goes_on name_ok c.args.bridges.now c.loop-index.index c.index-bridges-index.result c.loop-index-test.true (sym c.index-bridges-index.is) c.in_ok-check_name.ensures c.loop-index.invariant

pub returns : goal.returns
returns c = is_done name_ok c.args.bridges.now c.loop-index.index c.loop-index-test.false c.loop-index.invariant
