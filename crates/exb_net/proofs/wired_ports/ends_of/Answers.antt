use Rattle.std.proofs.Common.{◌≡◌, ◌∙◌, ◌++◌, ℕ, cond, List, [], ap, arith}
use Rattle.exb_model.specs.Tree.{is_external}
use Rattle.exb_net_spec.specs.Nets.{far_end}
use Rattle.exb_net.specs.declared.wired_ports.WiredPort.{WiredPort}
use Rattle.exb_net.specs.WiredPorts.{end_at}
use Rattle.exb_net.proofs.WiredPorts.{every_port, no_ports, one_port}
use Rattle.exb_net.proofs.wired_ports.ends_of.Goals as goal

pub loop-number-init : goal.loop-number-init
loop-number-init c = c.new-ends.ensures.items ∙ no_ports c.args.wires.now c.args.bridge c.args.tree.now

pub loop-number-preserved : goal.loop-number-preserved
loop-number-preserved c =
    let n = c.loop-number.number in
    let t = c.args.tree.now in
    let at : c.unwrap-port.result ≡ n = rw c.unwrap-port.ensures at c.new.ensures.value in
    c.in_ok-add_end.ensures
    ∙ (ap (λ (k : ℕ). c.loop-number.ends.items ++ cond (is_external t k) (end_at 1 k (far_end c.args.wires.now c.args.bridge k)) []) at
    ∙ (ap (λ (xs : List WiredPort). xs ++ cond (is_external t n) (end_at 1 n (far_end c.args.wires.now c.args.bridge n)) []) c.loop-number.invariant ∙ one_port c.args.wires.now c.args.bridge t n))

pub returns : goal.returns
returns c =
    let end : c.loop-number.number ≡ 4160 = omega (arith, c.loop-number-test.false, c.loop-number.auto.number-end) in
    c.loop-number.invariant ∙ every_port c.args.wires.now c.args.bridge c.args.tree.now c.loop-number.number end
