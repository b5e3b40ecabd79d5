use Rattle.std.specs.Prelude.{slice_index}
use Rattle.exb_audit.specs.Rule3Links.{both_used_up}
use Rattle.std.proofs.lemmas.List.{get_or_read}
use Rattle.exb_audit.proofs.ExtenderMachines.{all_carried, not_carried}
use Rattle.std.proofs.lemmas.Bool.{false≢true}
use Rattle.std.proofs.Common.{◌≡◌, ◌<◌, length, refl, sym, ◌∙◌, ap, arith}
use Rattle.exb_audit.proofs.rule3_links.keep_links.Goals as goal

pub returns-then-not-branch : goal.returns-then-not-branch
returns-then-not-branch c = λ t e h. (
  λ z. absurd (false≢true z),
  λ keeps. (
      let bad = c.in_ok-carries_if.ensures.no c.if-not-branch.true in
      let within : c.loop-number.number < length c.args.hanging.now = (let l = c.loop-number-test.true in let k = c.requires.hanging in omega (arith, l, k)) in
      let port : c.index-hanging-at.result ≡ slice_index c.args.hanging.now c.loop-number.number = get_or_read c.args.hanging.now c.loop-number.number c.index-hanging-at.result within c.index-hanging-at.is 0 in
      absurd (not_carried t c.args.ports.now c.args.hanging.now e h c.args.trace.now c.requires.ports c.rule_3_is_decided.ensures c.loop-number.number c.loop-number.auto.number c.loop-number-test.true bad.0
      (ap (λ p. both_used_up c.loop-number.number p c.args.trace.now) (sym port) ∙ bad.1) keeps)
      ),
)

pub returns : goal.returns
returns c = λ t e h. (
  λ z. all_carried t c.args.ports.now c.args.hanging.now e h c.args.trace.now c.requires.ports c.rule_3_is_decided.ensures (λ n low l some. (let far = c.loop-number-test.false in c.loop-number.invariant n low (omega (arith, l, far)) some)),
  λ keeps. refl,
)
