use Rattle.std.proofs.Common.{◌≡◌, ◌∙◌, sym, arith, ◌-◌, ◌+◌, ap, false, true}
use Rattle.exb_model.specs.Ports.{port_in}
use Rattle.exb_topology.specs.Checks.{all_from}
use Rattle.exb_topology.proofs.PortSets.{all_more, all_fails, all_end}
use Rattle.exb_topology.proofs.port_sets.has_range.Goals as goal

pub returns-then-not-contains : goal.returns-then-not-contains
returns-then-not-contains c =
    let f = port_in c.args.set.now in
    let port : c.unwrap-port.result ≡ c.loop-number.number = rw c.unwrap-port.ensures at c.new.ensures.value in
    let no : f c.loop-number.number ≡ false = ap f (sym port) ∙ sym c.contains.ensures ∙ c.if-not-contains.true in
    all_fails f c.loop-number.number (c.args.last + 1) (all_from f c.args.first (c.args.last + 1 - c.args.first)) (omega (arith, c.loop-number-test.true, c.number-number-end.ensures.value)) no c.loop-number.invariant

pub loop-number-preserved : goal.loop-number-preserved
loop-number-preserved c =
    let f = port_in c.args.set.now in
    let port : c.unwrap-port.result ≡ c.loop-number.number = rw c.unwrap-port.ensures at c.new.ensures.value in
    let yes : f c.loop-number.number ≡ true = ap f (sym port) ∙ sym c.contains.ensures ∙ c.if-not-contains.false in
    all_more f c.loop-number.number (c.args.last + 1) (all_from f c.args.first (c.args.last + 1 - c.args.first)) (omega (arith, c.loop-number-test.true, c.number-number-end.ensures.value)) yes c.loop-number.invariant

pub returns : goal.returns
returns c =
    let f = port_in c.args.set.now in
    all_end f c.loop-number.number (c.args.last + 1) (all_from f c.args.first (c.args.last + 1 - c.args.first)) (omega (arith, c.loop-number-test.false, c.number-number-end.ensures.value)) c.loop-number.invariant
