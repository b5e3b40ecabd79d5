use Rattle.std.proofs.Common.{◌≡◌, ◌∙◌, ◌+◌, ◌≤◌, ◌==◌, ◌||◌, true, false, ap, inl, inr, arith, sym}
use Rattle.exb_model.specs.Ports.{port_in}
use Rattle.exb_topology.proofs.PortSets.{range_all, range_none, within_yes, within_no}
use Rattle.exb_topology.proofs.port_sets.add_range.Goals as goal
use Rattle.exb_topology.proofs.port_sets.add_range.Goals.{then-contains, else-contains}
use Rattle.exb_model.specs.declared.port_set.PortSet.{PortSet}

pub loop-number-preserved : goal.loop-number-preserved
loop-number-preserved c = record {
  bound = inl (omega (arith, c.loop-number-test.true, c.number-number-end.ensures.value));
  found = λ q.
      let f = port_in c.args.from.now in
      let old = port_in c.args.set.now q in
      let n = c.loop-number.number in
      let port : c.unwrap-port.result ≡ n = rw c.unwrap-port.ensures at c.new.ensures.value in
      let low : c.args.first ≤ n = omega (arith, c.loop-number.auto.number, c.number-number.ensures.value) in
      elim c.if-contains.branch [
        | then-contains w ↦
            let yes : f n ≡ true = ap f (sym port) ∙ sym c.contains.ensures ∙ w.if-contains.true in
            ap (λ (s : PortSet). port_in s q) w.set-is ∙ w.insert.ensures q ∙ ap (λ b. q == c.unwrap-port.result || b) (c.loop-number.invariant.found q) ∙ within_yes f old c.args.first n c.unwrap-port.result q low port yes
        | else-contains w ↦
            let no : f n ≡ false = ap f (sym port) ∙ sym c.contains.ensures ∙ w.if-contains.false in
            ap (λ (s : PortSet). port_in s q) w.set-is ∙ c.loop-number.invariant.found q ∙ within_no f old c.args.first n q no
      ];
}

pub returns : goal.returns
returns c q =
    let old = port_in c.args.set.now q in
    let here = port_in c.args.from.now q in
    let end : c.args.last + 1 ≤ c.loop-number.number = omega (arith, c.loop-number-test.false, c.number-number-end.ensures.value) in
    c.loop-number.invariant.found q ∙ elim c.loop-number.invariant.bound [
      | inl low ↦ range_all old here c.args.first c.args.last c.loop-number.number q end low
      | inr is ↦ range_none old here c.args.first c.args.last c.loop-number.number q end is
    ]
