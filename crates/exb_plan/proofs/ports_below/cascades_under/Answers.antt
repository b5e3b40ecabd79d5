use Rattle.std.proofs.Common.{◌≡◌, ◌∙◌, ◌+◌, ◌-◌, ℕ, true, false, sym, ap, arith}
use Rattle.exb_model.specs.Tree.{is_cascade_under}
use Rattle.exb_model.proofs.Validity.{count_more_yes, count_more_no, count_none}
use Rattle.exb_control_spec.proofs.Plans.ChannelNeeds.{cascades_are}
use Rattle.exb_plan.proofs.ports_below.cascades_under.Goals as goal
use Rattle.exb_plan.proofs.ports_below.cascades_under.Goals.{then-is_cascade_under, else-is_cascade_under}

pub loop-number-init : goal.loop-number-init
loop-number-init c = record { counted = count_none (is_cascade_under c.args.tree.now (c.args.bridge_port - 1)); few = omega arith }

pub loop-number-preserved : goal.loop-number-preserved
loop-number-preserved c =
    let test = is_cascade_under c.args.tree.now (c.args.bridge_port - 1) in
    let n = c.loop-number.number in
    let at : c.unwrap.result ≡ n = rw c.unwrap.ensures at c.new.ensures.value in
    elim c.if-is_cascade_under.branch [
      | then-is_cascade_under w ↦
          let is : test n ≡ true = sym (c.is_cascade_under.ensures ∙ ap test at) ∙ w.if-is_cascade_under.true in
          rw w.count-is (record { counted = ap (λ (m : ℕ). m + 1) c.loop-number.invariant.counted ∙ sym (count_more_yes test n is); few = (let f = c.loop-number.invariant.few in omega (arith, f)) })
      | else-is_cascade_under w ↦
          let is : test n ≡ false = sym (c.is_cascade_under.ensures ∙ ap test at) ∙ w.if-is_cascade_under.false in
          rw w.count-is (record { counted = c.loop-number.invariant.counted ∙ sym (count_more_no test n is); few = (let f = c.loop-number.invariant.few in omega (arith, f)) })
    ]

pub returns-clause-value : goal.returns-clause-value
returns-clause-value c =
    let end : c.loop-number.number ≡ 4160 = omega (arith, c.loop-number-test.false, c.loop-number.auto.number-end) in
    cascades_are c.args.tree.now (c.args.bridge_port - 1) c.loop-number.count c.loop-number.number end c.loop-number.invariant.counted
