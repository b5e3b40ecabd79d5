use Rattle.std.proofs.Common.{◌≡◌, ◌∙◌, true, ap, sym, inl, inr, arith}
use Rattle.std.proofs.lemmas.Bool.{cases_eq}
use Rattle.exb_numbers.specs.Groups.{sets_of}
use Rattle.exb_numbers.specs.GroupOrder.{is_held}
use Rattle.exb_numbers.proofs.groups.next_free.Goals as goal

pub loop-place-preserved : goal.loop-place-preserved
loop-place-preserved c =
    let here : is_held (sets_of c.args.sets.now) c.loop-place.place ≡ true = sym c.is_held.ensures ∙ c.if-is_held.true in
    let i = c.loop-place.invariant in
    record {
      low = omega arith;
      high = omega arith;
      passed = λ n low high. elim (cases_eq n c.loop-place.place) [
        | inl e ↦ ap (is_held (sets_of c.args.sets.now)) e ∙ here
        | inr e ↦ i.passed n low (omega arith)
      ];
    }

pub returns-else-is_held-clause-free : goal.returns-else-is_held-clause-free
returns-else-is_held-clause-free c = sym c.is_held.ensures ∙ c.if-is_held.false
