use Rattle.exb_audit.proofs.JournalLines.{refused_number}
use Rattle.std.specs.Str.{bytes_eq}
use Rattle.std.proofs.Common.{sym, ◌∙◌, ap}
use Rattle.exb_audit.proofs.journal_lines.is_refused.Goals as goal

pub returns-then-eq : goal.returns-then-eq
returns-then-eq c = λ x. c.is_number.ensures ∙ refused_number c.args.kind.now c.args.what.now x (ap (bytes_eq c.args.kind.now) (sym c.as_slice.ensures) ∙ sym c.eq.ensures ∙ c.if-eq.true)
