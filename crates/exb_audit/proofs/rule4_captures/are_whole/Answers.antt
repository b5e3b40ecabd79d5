use Rattle.exb_audit.proofs.Rule4Captures.{external_below}
use Rattle.std.proofs.Common.{arith, rules}
use Rattle.exb_audit.proofs.rule4_captures.are_whole.Goals as goal

pub returns : goal.returns
returns c = (
  λ z p out. (let low = external_below c.args.tree.now p c.is_tree.ensures.sized out in let far = c.loop-number-test.false in c.loop-number.invariant p (omega (arith, low, far)) out),
  λ k. search rules,
)
