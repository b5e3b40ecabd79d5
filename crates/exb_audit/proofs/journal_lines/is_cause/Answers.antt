use Rattle.exb_audit.proofs.JournalLines.{cause_no_needed, cause_no_limit, cause_channels, cause_groups}
use Rattle.std.specs.Str.{bytes_eq}
use Rattle.std.proofs.Common.{sym, ◌∙◌, ap}
use Rattle.exb_audit.proofs.journal_lines.is_cause.Goals as goal

pub returns-then-not-is_number : goal.returns-then-not-is_number
returns-then-not-is_number c = cause_no_needed c.args.reason.now c.args.needed.now c.args.limit.now (sym c.is_number.ensures ∙ c.if-not-is_number.true)

pub returns-then-not-is_number-2 : goal.returns-then-not-is_number-2
returns-then-not-is_number-2 c = cause_no_limit c.args.reason.now c.args.needed.now c.args.limit.now (sym c.is_number.ensures ∙ c.if-not-is_number.false) (sym c.is_number-2.ensures ∙ c.if-not-is_number-2.true)

pub returns-then-eq : goal.returns-then-eq
returns-then-eq c = c.if-eq.true ∙ cause_channels c.args.reason.now c.args.needed.now c.args.limit.now (sym c.is_number.ensures ∙ c.if-not-is_number.false) (sym c.is_number-2.ensures ∙ c.if-not-is_number-2.false) (ap (bytes_eq c.args.reason.now) (sym c.as_slice.ensures) ∙ sym c.eq.ensures ∙ c.if-eq.true)

pub returns-else-eq : goal.returns-else-eq
returns-else-eq c = c.eq-else-eq.ensures ∙ ap (bytes_eq c.args.reason.now) c.as_slice-else-eq.ensures ∙ cause_groups c.args.reason.now c.args.needed.now c.args.limit.now (sym c.is_number.ensures ∙ c.if-not-is_number.false) (sym c.is_number-2.ensures ∙ c.if-not-is_number-2.false) (ap (bytes_eq c.args.reason.now) (sym c.as_slice.ensures) ∙ sym c.eq.ensures ∙ c.if-eq.false)
