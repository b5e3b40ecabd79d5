use Rattle.std.proofs.Common.{refl, arith}
use Rattle.exb_schedule.proofs.seeded_segments.draw_all.Goals as goal

pub draws-init : goal.draws-init
draws-init g c = record { on = λ all k. k; few = omega arith; failed = refl }

pub draws-preserved : goal.draws-preserved
draws-preserved g c =
    let before = c.draws.invariant.few in
    let fate = c.in_ok-draw.ensures.fate in
    record { on = λ all k. c.in_ok-draw.ensures.ok all c.args.world.now (c.draws.invariant.on all k); few = omega (arith, before, fate); failed = (let r = c.requires.drawn in (c.in_ok-draw.ensures.ok r.0 c.args.world.now (c.draws.invariant.on r.0 r.1)).made.moved.same.failed) }

pub draw-requires-clause-whole : goal.draw-requires-clause-whole
draw-requires-clause-whole g c = (let r = c.requires.drawn in (c.draws.invariant.on r.0 r.1).whole)

pub draw-requires-clause-ready : goal.draw-requires-clause-ready
draw-requires-clause-ready g c = (let r = c.requires.drawn in (c.draws.invariant.on r.0 r.1).ready)

pub draw-requires-clause-few : goal.draw-requires-clause-few
draw-requires-clause-few g c =
    let before = c.draws.invariant.few in
    let few = c.requires.few in
    omega (arith, before, few)
