use Rattle.std.proofs.Common.{◌+◌, arith, refl}
use Rattle.exb_model.specs.Ports.{below}
use Rattle.exb_make.specs.DrawOrder.{order, orders}
use Rattle.exb_make.proofs.DrawLoops.{adds-none, adds-at, adds-range}
use Rattle.exb_make.proofs.commands.add_orders.Goals as goal

pub loop-number-init : goal.loop-number-init
loop-number-init c = adds-none order c.args.timed.now c.args.rng.now

pub loop-number-preserved : goal.loop-number-preserved
loop-number-preserved c =
    adds-at order 0 c.loop-number.number c.loop-number.number (c.loop-number.number + 1) c.args.timed.now c.loop-number.timed c.add_order.new.timed
    c.args.rng.now c.loop-number.rng c.add_order.new.rng (omega arith) refl c.loop-number.invariant c.in_ok-add_order.ensures

pub returns : goal.returns
unfolding orders below
returns c =
    adds-range order 0 c.loop-number.number 20 c.args.timed.now c.loop-number.timed c.args.rng.now c.loop-number.rng
    (omega (arith, c.loop-number-test.false, c.loop-number.auto.number-end)) c.loop-number.invariant
