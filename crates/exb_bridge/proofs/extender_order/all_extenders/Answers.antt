use Rattle.std.proofs.Common.{◌≡◌, arith, inl, inr}
use Rattle.std.proofs.lemmas.Bool.{cases_lt}
use Rattle.exb_model.proofs.DeviceSets.{none_in_0}
use Rattle.exb_bridge.proofs.DeepestFirst.{extender_past}
use Rattle.exb_bridge.proofs.extender_order.all_extenders.Goals as goal

pub loop-number-init : goal.loop-number-init
loop-number-init c = record { low = λ n before. (let e : n ≡ 0 = omega (arith, before) in rw e (none_in_0 0)); high = λ n from. none_in_0 n }

pub returns : goal.returns
returns c = λ n.
    elim (cases_lt n c.loop-number.number) [
      | inl l ↦ c.loop-number.invariant.low n l
      | inr g ↦ rw (extender_past c.args.tree.now c.is_tree.ensures n (let end = c.loop-number-test.false in omega (arith, g, end))) (c.loop-number.invariant.high n g)
    ]
