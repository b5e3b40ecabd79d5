use Rattle.std.proofs.Common.{◌≡◌, ◌-◌, ◌/◌, ◌<◌, ◌≤◌, get_or, slice_index, ap, arith, refl, ◌∙◌}
use Rattle.std.proofs.lemmas.List.{get_or_default}
use Rattle.exb_model.proofs.TreeLoops.{counted_more, counted_last, counted_out, path_up}
use Rattle.exb_bridge.proofs.extender_order.height.Goals as goal

pub loop-step-init : goal.loop-step-init
loop-step-init c = (omega arith, rw path_up refl)

pub returns-then-device-eq0 : goal.returns-then-device-eq0
returns-then-device-eq0 c =
    let device = c.device.ensures.value in
    let low : c.loop-step.at < 64 = omega (arith, device, c.if-device-eq0.true) in
    omega (arith, c.loop-step.invariant.1, counted_last c.args.on.now (64 - c.loop-step._step) c.loop-step.at low)

pub loop-step-preserved : goal.loop-step-preserved
loop-step-preserved c =
    let on = c.args.on.now in
    let step = c.loop-step._step in
    let at = c.loop-step.at in
    let here = c.device.ensures.value in
    let device = c.device-in-loop-step in
    let high : 64 ≤ at = omega (arith, here, c.if-device-eq0.false) in
    let more = counted_more on step at c.loop-step-test.true high in
    let next : get_or on device.result c.index-on-device.result ≡ slice_index on (at / 64) =
    get_or_default on device.result c.index-on-device.result 0 (omega (arith, device.ensures.range, c.type_inv.on)) ∙ ap (λ n. slice_index on n) device.ensures.value in
    (omega (arith, c.loop-step.invariant.0), rw next (omega (arith, more, c.loop-step.invariant.1)))

pub returns : goal.returns
returns c = omega (arith, c.loop-step.invariant.1, counted_out c.args.on.now c.loop-step._step c.loop-step.at c.loop-step-test.false)
