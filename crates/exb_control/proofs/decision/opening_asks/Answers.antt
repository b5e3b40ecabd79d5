use Rattle.std.proofs.Common.{◌≡◌, arith}
use Rattle.exb_plan.specs.SpaceContents.{held_by}
use Rattle.exb_control.proofs.OpeningRequests.{opening_is, cascade_more, extender_of}
use Rattle.exb_control.proofs.decision.opening_asks.Goals as goal

pub loop-place-preserved : goal.loop-place-preserved
loop-place-preserved c =
    cascade_more c.args.tree.now c.args.extender (held_by c.args.spaces.now) c.loop-place.asks c.put_cascade.new.asks c.loop-place.place c.at-port.result c.at-port.ensures
    c.loop-place.invariant c.in_ok-put_cascade.ensures

pub put_cascade-requires-clause-extender : goal.put_cascade-requires-clause-extender
put_cascade-requires-clause-extender c =
    extender_of c.args.tree.now c.args.extender c.loop-place.place c.at-port.result c.loop-place-test.true c.at-port.ensures c.requires.extender

pub returns : goal.returns
returns c =
    let end : c.loop-place.place ≡ 64 = omega (arith, c.loop-place-test.false, c.loop-place.auto.place-end) in
    opening_is c.args.tree.now c.args.extender (held_by c.args.spaces.now) c.loop-place.asks c.loop-place.place end c.loop-place.invariant
