use Rattle.std.proofs.Common.{◌≡◌, ◌++◌, ◌+◌, ◌-◌, ◌∙◌, ap, sym, append_assoc, arith, take, drop, List, ℕ}
use Rattle.exb_model.specs.Traces.{hexadecimal}
use Rattle.exb_journal.proofs.TextLemmas.{digits_more}
use Rattle.exb_journal.proofs.trace_line.push_hexadecimal.Goals as goal

pub fours-preserved : goal.fours-preserved
fours-preserved c =
    let bytes = c.args.bytes.now in
    let four : (c.fours.at + 4) - c.fours.at ≡ 4 = omega arith in
    let next = hexadecimal (take 4 (drop c.fours.at bytes)) in (
      c.in_ok-push_four.ensures
          ∙ (ap (λ (n : ℕ). c.fours.text.items ++ hexadecimal (take n (drop c.fours.at bytes))) four
          ∙ (ap (λ (xs : List ℕ). xs ++ next) c.fours.invariant.0
          ∙ (append_assoc c.args.text.now.items (hexadecimal (take c.fours.at bytes)) next
          ∙ ap (λ (xs : List ℕ). c.args.text.now.items ++ xs) (sym (digits_more bytes c.fours.at 4))))),
      omega (arith, c.fours-test.true, c.fours.invariant.1),
    )
