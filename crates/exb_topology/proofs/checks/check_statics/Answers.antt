use Rattle.std.proofs.Common.{sym, take}
use Rattle.std.proofs.lemmas.Result.{err_from_is_err_and}
use Rattle.exb_topology.specs.Checks.{static_ok}
use Rattle.exb_topology.proofs.ElementChecks.{goes_on, ends, is_done}
use Rattle.exb_topology.proofs.StaticEntrySets.{knows_next}
use Rattle.exb_topology.proofs.checks.check_statics.Goals as goal

pub returns-in_err-check_static : goal.returns-in_err-check_static
returns-in_err-check_static c =
    let p = err_from_is_err_and c.from_residual.result c.from_residual.ensures.1 in
    rw (p.1, p.2) (ends (static_ok c.args.tree.now) c.in_err-check_static.field-0.0 c.args.statics.now c.loop-index.index c.index-statics-index.result c.loop-index-test.true (sym c.index-statics-index.is) (c.in_err-check_static.ensures.value (take c.loop-index.index c.args.statics.now) c.loop-index.invariant.1) c.loop-index.invariant.0)

pub loop-index-preserved : goal.loop-index-preserved
loop-index-preserved c = (
  goes_on (static_ok c.args.tree.now) c.args.statics.now c.loop-index.index c.index-statics-index.result c.loop-index-test.true (sym c.index-statics-index.is) (c.in_ok-check_static.ensures.value (take c.loop-index.index c.args.statics.now) c.loop-index.invariant.1) c.loop-index.invariant.0,
  knows_next _ c.args.statics.now c.loop-index.index c.index-statics-index.result c.loop-index-test.true (sym c.index-statics-index.is) (c.in_ok-check_static.ensures.noted (take c.loop-index.index c.args.statics.now) c.loop-index.invariant.1),
)

pub returns : goal.returns
returns c = is_done (static_ok c.args.tree.now) c.args.statics.now c.loop-index.index c.loop-index-test.false c.loop-index.invariant.0
