use Rattle.std.proofs.Common.{get_or}
use Rattle.std.proofs.lemmas.Result.{err_from_is_err_and}
use Rattle.std.proofs.lemmas.List.{get_or_default}
use Rattle.exb_model.specs.declared.setup.Place.TheVariants as place
use Rattle.exb_topology.specs.Trees.{hung}
use Rattle.exb_topology.proofs.ElementChecks.{goes_on, ends, is_done}
use Rattle.exb_topology.proofs.trees.check_hung.Goals as goal

pub returns-in_err-hung : goal.returns-in_err-hung
returns-in_err-hung c =
    let p = err_from_is_err_and c.from_residual.result c.from_residual.ensures.1 in
    let xs = c.args.extenders.now in
    let i = c.loop-index.index in
    let x = get_or xs i (record { number = 0; ports = 0; on = place.Bridge 0 }) in
    rw (p.1, p.2) (ends (hung c.args.ports c.args.extenders.now) c.in_err-hung.field-0.0 xs i x c.loop-index-test.true (get_or_default xs i x (record { number = 0; ports = 0; on = place.Bridge 0 }) c.loop-index-test.true) (c.in_err-hung.ensures) c.loop-index.invariant)

pub loop-index-preserved : goal.loop-index-preserved
loop-index-preserved c =
    let xs = c.args.extenders.now in
    let i = c.loop-index.index in
    let x = get_or xs i (record { number = 0; ports = 0; on = place.Bridge 0 }) in
    goes_on (hung c.args.ports c.args.extenders.now) xs i x c.loop-index-test.true (get_or_default xs i x (record { number = 0; ports = 0; on = place.Bridge 0 }) c.loop-index-test.true) (c.in_ok-hung.ensures) c.loop-index.invariant

pub returns : goal.returns
returns c = is_done (hung c.args.ports c.args.extenders.now) c.args.extenders.now c.loop-index.index c.loop-index-test.false c.loop-index.invariant
