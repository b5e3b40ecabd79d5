use Rattle.exb_audit.proofs.JournalLines.{many_parts}
use Rattle.std.proofs.Common.{sym, ◌∙◌}
use Rattle.exb_audit.proofs.line_words.extended.Goals as goal

pub returns-then-is_some-clause-value : goal.returns-then-is_some-clause-value
returns-then-is_some-clause-value c = many_parts c.args.text.now _ _ _ _ c.in-Some.rest c.cut.ensures c.in-Some.is c.cut-2.ensures (sym c.is_some.ensures ∙ c.if-is_some.true)
