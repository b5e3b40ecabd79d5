use Rattle.std.proofs.Common.{◌∙◌, ◌+◌, Option, drop, sym, ap}
use Rattle.exb_net_spec.specs.declared.wires.End.{End}
use Rattle.exb_net_spec.specs.Nets.{far_end, first_or}
use Rattle.exb_net.proofs.WiredPorts.{far_next}
use Rattle.exb_net.proofs.wired_ports.far_end.Goals as goal

pub returns-in-Some : goal.returns-in-Some
returns-in-Some c =
    let ws = c.args.wires.now in
    let i = c.loop-wire.wire-index in
    ap (λ (o : Option End). first_or o (far_end (drop (i + 1) ws) c.args.bridge c.args.port)) (sym c.in-Some.is ∙ c.across.ensures)
    ∙ (sym (far_next c.args.bridge c.args.port ws i c.wire-item.result c.loop-wire-test.true c.wire-item.is) ∙ c.loop-wire.invariant)

pub loop-wire-preserved : goal.loop-wire-preserved
loop-wire-preserved c =
    let ws = c.args.wires.now in
    let i = c.loop-wire.wire-index in
    ap (λ (o : Option End). first_or o (far_end (drop (i + 1) ws) c.args.bridge c.args.port)) (sym c.in_default.is ∙ c.across.ensures)
    ∙ (sym (far_next c.args.bridge c.args.port ws i c.wire-item.result c.loop-wire-test.true c.wire-item.is) ∙ c.loop-wire.invariant)
