use Rattle.exb_audit.proofs.JournalLines.{simple_tick, simple_commit}
use Rattle.std.specs.Str.{bytes_eq}
use Rattle.std.proofs.Common.{sym, ◌∙◌, ap}
use Rattle.exb_audit.proofs.journal_lines.is_simple.Goals as goal

pub returns-then-eq : goal.returns-then-eq
returns-then-eq c = c.is_number.ensures ∙ simple_tick c.args.kind.now c.args.what.now (ap (bytes_eq c.args.kind.now) (sym c.as_slice.ensures) ∙ sym c.eq.ensures ∙ c.if-eq.true)

pub returns-then-eq-2 : goal.returns-then-eq-2
returns-then-eq-2 c = c.is_number-then-eq-2.ensures ∙ simple_commit c.args.kind.now c.args.what.now (ap (bytes_eq c.args.kind.now) (sym c.as_slice.ensures) ∙ sym c.eq.ensures ∙ c.if-eq.false) (ap (bytes_eq c.args.kind.now) (sym c.as_slice-2.ensures) ∙ sym c.eq-2.ensures ∙ c.if-eq-2.true)
