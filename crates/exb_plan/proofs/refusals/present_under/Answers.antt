use Rattle.std.proofs.Common.{◌≡◌, ◌∙◌, ◌+◌, ◌-◌, ◌&&◌, ℕ, Bool, true, false, sym, ap, arith}
use Rattle.exb_model.specs.Tree.{is_under}
use Rattle.exb_model.proofs.Validity.{count_more_yes, count_more_no, count_none}
use Rattle.exb_config.specs.Tables.{bridge_of}
use Rattle.exb_control_spec.proofs.Plans.ChannelNeeds.{present_are}
use Rattle.exb_plan.proofs.refusals.present_under.Goals as goal
use Rattle.exb_plan.proofs.refusals.present_under.Goals.{then-is_present_under, else-is_present_under}

pub loop-number-init : goal.loop-number-init
loop-number-init c = record { counted = count_none (λ q. is_under c.args.tree.now (c.args.bridge_port - 1) q && (bridge_of c.args.config.now).present q); few = omega arith }

pub loop-number-preserved : goal.loop-number-preserved
loop-number-preserved c =
    let test : ℕ → Bool = λ q. is_under c.args.tree.now (c.args.bridge_port - 1) q && (bridge_of c.args.config.now).present q in
    let n = c.loop-number.number in
    let at : c.unwrap-port.result ≡ n = rw c.unwrap-port.ensures at c.new.ensures.value in
    elim c.if-is_present_under.branch [
      | then-is_present_under w ↦
          let is : test n ≡ true = sym (c.is_present_under.ensures ∙ ap test at) ∙ w.if-is_present_under.true in
          rw w.count-is (record { counted = ap (λ (m : ℕ). m + 1) c.loop-number.invariant.counted ∙ sym (count_more_yes test n is); few = (let f = c.loop-number.invariant.few in omega (arith, f)) })
      | else-is_present_under w ↦
          let is : test n ≡ false = sym (c.is_present_under.ensures ∙ ap test at) ∙ w.if-is_present_under.false in
          rw w.count-is (record { counted = c.loop-number.invariant.counted ∙ sym (count_more_no test n is); few = (let f = c.loop-number.invariant.few in omega (arith, f)) })
    ]

pub returns-clause-value : goal.returns-clause-value
returns-clause-value c =
    let end : c.loop-number.number ≡ 4160 = omega (arith, c.loop-number-test.false, c.loop-number.auto.number-end) in
    present_are c.args.tree.now (c.args.bridge_port - 1) (bridge_of c.args.config.now) c.loop-number.count c.loop-number.number end c.loop-number.invariant.counted
