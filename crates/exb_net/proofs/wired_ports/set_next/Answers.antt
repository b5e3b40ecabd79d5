use Rattle.std.proofs.Common.{◌∙◌, ◌<◌, length, set, ap, sym, arith}
use Rattle.std.proofs.lemmas.List.Edits.{map_over_more}
use Rattle.exb_net.specs.declared.wired_ports.WiredPort.{WiredPort}
use Rattle.exb_net.specs.WiredPorts.{with_next}
use Rattle.exb_net.proofs.wired_ports.set_next.Goals as goal

pub loop-end-preserved : goal.loop-end-preserved
loop-end-preserved c =
    let xs = c.args.ends.now.items in
    let ys = c.loop-end.end-items in
    let i = c.loop-end.end-index in
    let same = ap (λ zs. length zs) c.deref_mut-end-items.ensures.value in
    let low : i < length xs = omega (arith, c.loop-end-test.true, same) in
    ap (λ (x : WiredPort). set ys i x) (c.renumber.ensures ∙ ap (with_next c.args.port c.args.next) (sym c.end-item.is))
    ∙ map_over_more (with_next c.args.port c.args.next) xs ys i c.end-item.result low c.loop-end.invariant c.end-item.is
