use Rattle.std.proofs.Common.{◌≡◌, ◌+◌, ◌-◌, ◌∙◌, arith}
use Rattle.exb_make.specs.DrawOrder.{members, memberships}
use Rattle.exb_make.proofs.DrawLoops.{adds-none, adds-at, adds-range}
use Rattle.exb_make.proofs.start.add_memberships.Goals as goal

pub loop-number-init : goal.loop-number-init
loop-number-init c = adds-none members c.args.start.now c.args.rng.now

pub loop-number-preserved : goal.loop-number-preserved
loop-number-preserved c =
    let vid : c.unwrap-vid.result ≡ c.loop-number.number = rw c.unwrap-vid.ensures at c.new.ensures.value in
    adds-at members 1 (c.loop-number.number - 1) c.unwrap-vid.result (c.loop-number.number + 1 - 1) c.args.start.now c.loop-number.start c.add_members.new.start
    c.args.rng.now c.loop-number.rng c.add_members.new.rng (vid ∙ omega (arith, c.loop-number.auto.number)) (omega (arith, c.loop-number.auto.number)) c.loop-number.invariant c.in_ok-add_members.ensures

pub returns : goal.returns
unfolding memberships
returns c =
    adds-range members 1 (c.loop-number.number - 1) 4 c.args.start.now c.loop-number.start c.args.rng.now c.loop-number.rng
    (omega (arith, c.loop-number-test.false, c.loop-number.auto.number-end)) c.loop-number.invariant
