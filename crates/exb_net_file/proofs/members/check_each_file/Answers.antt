use Rattle.std.proofs.Common.{sym}
use Rattle.std.proofs.lemmas.Result.{err_from_is_err_and}
use Rattle.exb_topology.proofs.ElementChecks.{goes_on, ends, is_done}
use Rattle.exb_net_file.specs.Members.{files_ok}
use Rattle.exb_net_file.proofs.members.check_each_file.Goals as goal

pub returns-in_err-check_file : goal.returns-in_err-check_file
returns-in_err-check_file c =
    let p = err_from_is_err_and c.from_residual.result c.from_residual.ensures.1 in
    rw (p.1, p.2) (ends (files_ok c.args.members.now) c.in_err-check_file.field-0.0 c.args.members.now c.loop-index.index c.index-members-index.result c.loop-index-test.true (sym c.index-members-index.is) c.in_err-check_file.ensures c.loop-index.invariant)

pub loop-index-preserved : goal.loop-index-preserved
loop-index-preserved c =
    goes_on (files_ok c.args.members.now) c.args.members.now c.loop-index.index c.index-members-index.result c.loop-index-test.true (sym c.index-members-index.is) c.in_ok-check_file.ensures c.loop-index.invariant

pub returns : goal.returns
returns c = is_done (files_ok c.args.members.now) c.args.members.now c.loop-index.index c.loop-index-test.false c.loop-index.invariant
