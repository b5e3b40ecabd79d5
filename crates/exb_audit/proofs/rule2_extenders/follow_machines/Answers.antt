use Rattle.exb_audit.proofs.ExtenderMachines.{all_done, not_done}
use Rattle.std.proofs.lemmas.Bool.{false≢true}
use Rattle.std.proofs.Common.{refl, arith}
use Rattle.exb_audit.proofs.rule2_extenders.follow_machines.Goals as goal

pub returns-then-not-branch : goal.returns-then-not-branch
returns-then-not-branch c = λ t e. (
  λ z. absurd (false≢true z),
  λ follow. (let bad = c.in_ok-follows_if.ensures.no c.if-not-branch.true in
      absurd (not_done t c.args.ports.now e c.args.trace.now c.requires.sized c.rule_2_is_decided.ensures c.loop-number.number c.loop-number.auto.number c.loop-number-test.true bad.0 bad.1 follow)),
)

pub returns : goal.returns
returns c = λ t e. (
  λ z. all_done t c.args.ports.now e c.args.trace.now c.requires.sized c.rule_2_is_decided.ensures (λ n low l some. (let far = c.loop-number-test.false in c.loop-number.invariant n low (omega (arith, l, far)) some)),
  λ follow. refl,
)
