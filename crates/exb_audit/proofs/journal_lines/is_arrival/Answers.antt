use Rattle.exb_audit.proofs.JournalLines.{arrival_no_number, arrival_relay, arrival_ignore, some_not}
use Rattle.std.specs.Str.{bytes_eq}
use Rattle.std.specs.Prelude.{is_some}
use Rattle.std.proofs.Common.{sym, ◌∙◌, ap}
use Rattle.exb_audit.proofs.journal_lines.is_arrival.Goals as goal

pub returns-then-not-is_number : goal.returns-then-not-is_number
returns-then-not-is_number c = arrival_no_number c.args.kind.now c.args.at.now c.args.index.now (sym c.is_number.ensures ∙ c.if-not-is_number.true)

pub returns-then-eq : goal.returns-then-eq
returns-then-eq c = c.if-eq.true ∙ arrival_relay c.args.kind.now c.args.at.now c.args.index.now (ap is_some (sym c.port.ensures.value) ∙ some_not _ _ c.is_none.ensures c.if-is_none.false) (sym c.is_number.ensures ∙ c.if-not-is_number.false) (ap (bytes_eq c.args.kind.now) (sym c.as_slice.ensures) ∙ sym c.eq.ensures ∙ c.if-eq.true)

pub returns-else-eq : goal.returns-else-eq
returns-else-eq c = c.eq-else-eq.ensures ∙ ap (bytes_eq c.args.kind.now) c.as_slice-else-eq.ensures ∙ arrival_ignore c.args.kind.now c.args.at.now c.args.index.now (ap is_some (sym c.port.ensures.value) ∙ some_not _ _ c.is_none.ensures c.if-is_none.false) (sym c.is_number.ensures ∙ c.if-not-is_number.false) (ap (bytes_eq c.args.kind.now) (sym c.as_slice.ensures) ∙ sym c.eq.ensures ∙ c.if-eq.false)
