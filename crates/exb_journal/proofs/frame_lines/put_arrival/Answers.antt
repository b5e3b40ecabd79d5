use Rattle.std.proofs.Common.{arith, ◌++◌, ◌∷◌, List, ℕ, drop, ap, ◌∙◌}
use Rattle.std.specs.Prelude.{codes, decimal}
use Rattle.std.proofs.lemmas.Fmt.{length-decimal-le}
use Rattle.exb_model.specs.Texts.{port_name}
use Rattle.exb_journal.proofs.TextLemmas.{four_pieces}
use Rattle.exb_journal.proofs.frame_lines.put_arrival.Goals as goal

pub write_digits-digits-requires : goal.write_digits-digits-requires
write_digits-digits-requires c =
    let short = length-decimal-le 20 c.args.index (omega arith) (omega (arith, c.ranges.index.fits)) c.ranges.index.fits in
    let newline = c.put-end.ensures.start in
    (omega (arith, short, newline, c.requires.room), omega (arith, newline, c.requires.within, c.put-end.array_long))

pub put-space-requires-clause-room : goal.put-space-requires-clause-room
put-space-requires-clause-room c =
    let short = length-decimal-le 20 c.args.index (omega arith) (omega (arith, c.ranges.index.fits)) c.ranges.index.fits in
    omega (arith, short, c.requires.room, c.put-end.ensures.start, c.write_digits-digits.ensures.start)

pub put_port-name-requires-clause-room : goal.put_port-name-requires-clause-room
put_port-name-requires-clause-room c =
    let short = length-decimal-le 20 c.args.index (omega arith) (omega (arith, c.ranges.index.fits)) c.ranges.index.fits in
    omega (arith, short, c.requires.room, c.put-end.ensures.start, c.write_digits-digits.ensures.start, c.put-space.ensures.start)

pub put-requires-clause-room : goal.put-requires-clause-room
put-requires-clause-room c =
    let short = length-decimal-le 20 c.args.index (omega arith) (omega (arith, c.ranges.index.fits)) c.ranges.index.fits in
    omega (arith, short, c.requires.word, c.requires.room, c.put-end.ensures.start, c.write_digits-digits.ensures.start, c.put-space.ensures.start, c.put_port-name.ensures.start)

pub returns-clause-written : goal.returns-clause-written
returns-clause-written c =
    let word = c.args.word.now in
    let name = port_name c.args.port in
    let digits = decimal c.args.index in
    let rest = drop c.args.before c.args.room.now in
    let number = c.write_digits-digits.ensures.written ∙ ap (λ (xs : List ℕ). digits ++ xs) c.put-end.ensures.written in
    let space = c.put-space.ensures.written ∙ ap (λ (xs : List ℕ). 32 ∷ xs) number in
    let port = c.put_port-name.ensures.written ∙ ap (λ (xs : List ℕ). name ++ xs) space in
    c.put.ensures.written ∙ (ap (λ (xs : List ℕ). word ++ xs) port ∙ four_pieces word name (codes " ") digits (10 ∷ rest))
