use Rattle.exb_audit.proofs.JournalLines.{goes_on, more, long_none}
use Rattle.std.proofs.Common.{sym, ◌∙◌}
use Rattle.exb_audit.proofs.journal_lines.is_long.Goals as goal

pub returns-then-is_some : goal.returns-then-is_some
returns-then-is_some c =
    long_none c.args.kind.now c.args.what.now c.args.reason.now c.args.rest.now _ _ c.in-Some.rest.now (goes_on c.args.rest.now _ _ c.in-Some.rest c.first_word.ensures c.in-Some.is)
    (more c.in-Some.rest.now _ _ c.first_word-2.ensures (sym c.is_some.ensures ∙ c.if-is_some.true))
