use Rattle.exb_audit.proofs.JournalLines.{goes_on, more, passing_none}
use Rattle.std.proofs.Common.{sym, ◌∙◌}
use Rattle.exb_audit.proofs.trace_lines.read_passing.Goals as goal

pub returns-then-is_some : goal.returns-then-is_some
returns-then-is_some c =
    passing_none c.args.line.now _ _ _ _ _ _ _ (goes_on c.args.line.now _ _ c.in-Some.rest c.first_word.ensures c.in-Some.is)
    (goes_on c.in-Some.rest.now _ _ c.in-Some-rest.rest c.first_word-2.ensures c.in-Some-rest.is)
    (goes_on c.in-Some-rest.rest.now _ _ c.in-Some-rest-2.rest c.first_word-3.ensures c.in-Some-rest-2.is)
    (more c.in-Some-rest-2.rest.now _ _ c.first_word-4.ensures (sym c.is_some.ensures ∙ c.if-is_some.true))
