use Rattle.std.proofs.Common.{◌∙◌, ℕ, get_or, ap, sym, inl, inr, arith}
use Rattle.std.proofs.lemmas.Bool.{cases_eq}
use Rattle.std.proofs.lemmas.Grind.{same_number_lists}
use Rattle.exb_numbers.proofs.groups.are_same.Goals as goal

pub loop-device-preserved : goal.loop-device-preserved
loop-device-preserved c k h =
    elim (cases_eq k c.loop-device.device) [
      | inl e ↦ ap (λ (j : ℕ). get_or c.args.one.now.words j 0) e ∙ c.if-one-device.false ∙ ap (λ (j : ℕ). get_or c.args.other.now.words j 0) (sym e)
      | inr e ↦ c.loop-device.invariant k (omega arith)
    ]

pub returns : goal.returns
returns c same =
    let one = c.args.one.now in
    let other = c.args.other.now in
    same_number_lists one.words other.words (one.sized ∙ sym other.sized) (λ k h. c.loop-device.invariant k (let z = one.sized in let e = c.loop-device-test.false in omega (arith, z, e, h)))
