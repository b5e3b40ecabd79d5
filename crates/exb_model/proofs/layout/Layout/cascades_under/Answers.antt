use Rattle.std.proofs.Common.{arith, ◌≡◌, ◌∙◌, sym, ap, ℕ, count_by, true, false}
use Rattle.exb_model.specs.Ports.{below}
use Rattle.exb_model.specs.Tree.{is_cascade_under, cascades_under}
use Rattle.exb_model.proofs.Validity.{count_more_yes, count_more_no, count_none}
use Rattle.exb_model.proofs.layout.Layout.cascades_under.Goals as goal
use Rattle.exb_model.proofs.layout.Layout.cascades_under.Goals.{then-is_cascade_under, else-is_cascade_under}

pub loop-number-init : goal.loop-number-init
loop-number-init c = record { counted = count_none (is_cascade_under c.args.self.now c.args.bridge_port); few = omega arith }

pub loop-number-preserved : goal.loop-number-preserved
loop-number-preserved c =
    let port : c.unwrap-port.result ≡ c.loop-number.number = rw c.unwrap-port.ensures at c.new.ensures.value in
    let test = is_cascade_under c.args.self.now c.args.bridge_port in
    elim c.if-is_cascade_under.branch [
      | then-is_cascade_under w ↦
          let yes : test c.loop-number.number ≡ true = ap test (sym port) ∙ sym c.is_cascade_under.ensures ∙ w.if-is_cascade_under.true in
          record {
            counted = omega (arith, w.count-is, count_more_yes test c.loop-number.number yes, c.loop-number.invariant.counted);
            few = omega (arith, w.count-is, c.loop-number.invariant.few);
          }
      | else-is_cascade_under w ↦
          let no : test c.loop-number.number ≡ false = ap test (sym port) ∙ sym c.is_cascade_under.ensures ∙ w.if-is_cascade_under.false in
          record {
            counted = omega (arith, w.count-is, count_more_no test c.loop-number.number no, c.loop-number.invariant.counted);
            few = omega (arith, w.count-is, c.loop-number.invariant.few);
          }
    ]

pub returns : goal.returns
unfolding cascades_under
returns c =
    let all : c.loop-number.number ≡ 4160 = omega (arith, c.loop-number.auto.number-end, c.loop-number-test.false, c.devices-number-end.ensures.value) in
    c.loop-number.invariant.counted ∙ ap (λ (n : ℕ). count_by (is_cascade_under c.args.self.now c.args.bridge_port) (below n)) all
