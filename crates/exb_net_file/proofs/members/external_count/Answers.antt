use Rattle.std.proofs.Common.{◌∙◌, ◌+◌, ℕ, cond, sym, ap, arith}
use Rattle.exb_model.specs.Tree.{is_external}
use Rattle.exb_net_file.proofs.LoopSteps.{none_counted, one_more, all_counted}
use Rattle.exb_net_file.proofs.members.external_count.Goals as goal

pub loop-number-init : goal.loop-number-init
loop-number-init c = record { counted = none_counted c.args.tree.now; most = omega arith }

pub loop-number-preserved : goal.loop-number-preserved
loop-number-preserved c =
    let t = c.args.tree.now in
    let n = c.loop-number.number in
    record {
      counted =
          ap (λ (k : ℕ). c.loop-number.count + k) c.one_if_external-count.ensures.value
          ∙ ap (λ (k : ℕ). k + cond (is_external t n) 1 0) c.loop-number.invariant.counted
          ∙ sym (one_more t n);
      most = omega (arith, c.one_if_external-count.ensures.most, c.loop-number.invariant.most);
    }

pub returns-clause-value : goal.returns-clause-value
returns-clause-value c = c.loop-number.invariant.counted ∙ all_counted c.args.tree.now c.loop-number.number (omega (arith, c.loop-number.auto.number-end, c.loop-number-test.false))
