use Rattle.std.proofs.Common.{◌∙◌, ◌+◌, ◌-◌, ◌*◌, ◌++◌, ap, arith}
use Rattle.std.specs.List.{range_with_len}
use Rattle.exb_make.proofs.GeneratedTree.{ports-none, ports-more}
use Rattle.exb_make.proofs.tree.add_ports.Goals as goal

pub loop-place-init : goal.loop-place-init
loop-place-init c = ports-none c.args.ports.now.items (64 * c.args.device + c.args.first) (c.args.first - c.args.first) (omega arith)

pub loop-place-preserved : goal.loop-place-preserved
loop-place-preserved c =
    let low = c.loop-place.auto.place in
    ports-more c.args.ports.now.items c.loop-place.ports.items c.push.new.self.items (64 * c.args.device + c.args.first) (c.loop-place.place - c.args.first) (c.loop-place.place + 1 - c.args.first)
    c.at.result c.loop-place.invariant c.in_ok-push.ensures.items (let e = c.at.ensures in omega (arith, e, low)) (omega (arith, low))

pub returns : goal.returns
returns c =
    let low = c.loop-place.auto.place in
    c.loop-place.invariant
    ∙ ap (λ n. c.args.ports.now.items ++ range_with_len (64 * c.args.device + c.args.first) n) (omega (arith, low, c.loop-place-test.false, c.loop-place.auto.place-end))
