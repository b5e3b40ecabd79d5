use Rattle.std.proofs.Common.{arith, ◌<◌, ◌^◌, ◌++◌, ◌∷◌, List, ℕ, drop, ap, ◌∙◌}
use Rattle.std.specs.Prelude.{codes, decimal}
use Rattle.std.proofs.lemmas.Fmt.{length-decimal-le}
use Rattle.exb_journal.proofs.frame_lines.put_tick.Goals as goal

pub write_digits-digits-requires : goal.write_digits-digits-requires
write_digits-digits-requires c =
    let short = length-decimal-le 20 c.from.result (omega arith) (omega (arith, c.from.type_inv)) c.from.type_inv in
    let newline = c.put-end.ensures.start in
    (omega (arith, short, newline, c.requires.room), omega (arith, newline, c.requires.within, c.put-end.array_long))

pub put-requires-clause-room : goal.put-requires-clause-room
put-requires-clause-room c =
    let few : c.from.result < 10 ^ 10 = omega (arith, c.from.ensures, c.ranges.seconds.fits) in
    let short = length-decimal-le 10 c.from.result (omega arith) few c.from.type_inv in
    omega (arith, short, c.requires.room, c.put-end.ensures.start, c.write_digits-digits.ensures.start)

pub returns-clause-written : goal.returns-clause-written
returns-clause-written c =
    let rest = drop c.args.before c.args.room.now in
    let number = c.write_digits-digits.ensures.written ∙ ap (λ (xs : List ℕ). decimal c.from.result ++ xs) c.put-end.ensures.written in
    c.put.ensures.written ∙ ap (λ (xs : List ℕ). codes "tick " ++ xs) (number ∙ ap (λ (n : ℕ). decimal n ++ 10 ∷ rest) c.from.ensures)
