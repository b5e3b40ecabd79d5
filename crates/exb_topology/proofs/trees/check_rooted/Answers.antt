use Rattle.std.proofs.Common.{◌≡◌, sym, subst, get_or, take, Ok}
use Rattle.std.proofs.lemmas.Result.{err_from_is_err_and}
use Rattle.std.proofs.lemmas.List.{get_or_default}
use Rattle.exb_model.specs.declared.setup.Place.TheVariants as place
use Rattle.exb_model.specs.Setup.{shape_of}
use Rattle.exb_toml_keys.specs.Faults.{Fails}
use Rattle.exb_topology.specs.ElementChecks.{each_ok}
use Rattle.exb_topology.specs.Trees.{rooted}
use Rattle.exb_topology.proofs.ElementChecks.{goes_on, ends, is_done}
use Rattle.exb_topology.proofs.trees.check_rooted.Goals as goal

pub returns-in_err-rooted : goal.returns-in_err-rooted
returns-in_err-rooted c =
    let p = err_from_is_err_and c.from_residual.result c.from_residual.ensures.1 in
    let t = shape_of c.args.setup.now in
    let xs = c.as_slice-extenders.result.now in
    let i = c.loop-index.index in
    let x = get_or xs i (record { number = 0; ports = 0; on = place.Bridge 0 }) in
    rw (p.1, p.2) (subst (λ zs. Fails c.in_err-rooted.field-0.0 (each_ok (rooted t) zs 0 zs)) c.as_slice-extenders.ensures (ends (rooted t) c.in_err-rooted.field-0.0 xs i x c.loop-index-test.true (get_or_default xs i x (record { number = 0; ports = 0; on = place.Bridge 0 }) c.loop-index-test.true) (c.in_err-rooted.ensures t (sym c.hanging-on.ensures.value) (take i xs)) c.loop-index.invariant))

pub loop-index-preserved : goal.loop-index-preserved
loop-index-preserved c =
    let t = shape_of c.args.setup.now in
    let xs = c.as_slice-extenders.result.now in
    let i = c.loop-index.index in
    let x = get_or xs i (record { number = 0; ports = 0; on = place.Bridge 0 }) in
    goes_on (rooted t) xs i x c.loop-index-test.true (get_or_default xs i x (record { number = 0; ports = 0; on = place.Bridge 0 }) c.loop-index-test.true) (c.in_ok-rooted.ensures t (sym c.hanging-on.ensures.value) (take i xs)) c.loop-index.invariant

pub returns : goal.returns
returns c =
    let t = shape_of c.args.setup.now in
    subst (λ zs. each_ok (rooted t) zs 0 zs ≡ Ok tt) c.as_slice-extenders.ensures (is_done (rooted (shape_of c.args.setup.now)) c.as_slice-extenders.result.now c.loop-index.index c.loop-index-test.false c.loop-index.invariant)
