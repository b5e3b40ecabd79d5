use Rattle.std.proofs.Common.{◌<◌, length, slice_index_or, arith}
use Rattle.std.proofs.lemmas.Option.{slice_get-get_or}
use Rattle.exb_bridge.proofs.ExtenderPlaces.{none_placed, one_placed, all_placed}
use Rattle.exb_bridge.proofs.extender_order.places_in.Goals as goal

pub loop-place-init : goal.loop-place-init
loop-place-init c = none_placed c.args.order.now

pub loop-place-preserved : goal.loop-place-preserved
loop-place-preserved c =
    let order = c.args.order.now in
    let place = c.loop-place.place in
    let few = c.requires.few in
    let test = c.loop-place-test.true in
    let within : place < length order = omega (arith, test, few) in
    one_placed order c.loop-place.places place (slice_index_or order place 0) (omega (arith, within, few)) (c.requires.low place 0 within) (slice_get-get_or order place 0 within) c.requires.once c.loop-place.invariant

pub returns : goal.returns
returns c =
    let past = c.loop-place-test.false in
    let few = c.requires.few in
    all_placed c.args.order.now c.loop-place.places c.loop-place.place (omega (arith, past, few)) c.loop-place.invariant
