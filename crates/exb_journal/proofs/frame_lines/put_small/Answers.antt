use Rattle.std.proofs.Common.{rules, arith}
use Rattle.std.proofs.lemmas.Fmt.{length-decimal-le}
use Rattle.exb_journal.proofs.frame_lines.put_small.Goals as goal

pub write_digits-requires : goal.write_digits-requires
write_digits-requires c = search (rules, length-decimal-le 2)

pub returns-clause-start : goal.returns-clause-start
returns-clause-start c =
    let same = c.from.ensures in
    let short = length-decimal-le 2 c.from.result (omega arith) (omega (arith, same, c.requires.small)) (omega (arith, same, c.requires.small)) in
    omega (arith, short, c.write_digits.ensures.start)
