use Rattle.std.proofs.Common.{sym}
use Rattle.std.proofs.lemmas.Result.{err_from_is_err_and}
use Rattle.exb_topology.specs.Checks.{command_ok}
use Rattle.exb_topology.proofs.ElementChecks.{goes_on, ends, is_done}
use Rattle.exb_topology.proofs.checks.check_commands.Goals as goal

pub returns-in_err-check_action : goal.returns-in_err-check_action
returns-in_err-check_action c =
    let p = err_from_is_err_and c.from_residual.result c.from_residual.ensures.1 in
    rw (p.1, p.2) (ends (command_ok c.args.tree.now) c.in_err-check_action.field-0.0 c.args.commands.now c.loop-index.index c.index-commands-index.result c.loop-index-test.true (sym c.index-commands-index.is) c.in_err-check_action.ensures c.loop-index.invariant)

pub loop-index-preserved : goal.loop-index-preserved
loop-index-preserved c =
    goes_on (command_ok c.args.tree.now) c.args.commands.now c.loop-index.index c.index-commands-index.result c.loop-index-test.true (sym c.index-commands-index.is) c.in_ok-check_action.ensures c.loop-index.invariant

pub returns : goal.returns
returns c = is_done (command_ok c.args.tree.now) c.args.commands.now c.loop-index.index c.loop-index-test.false c.loop-index.invariant
