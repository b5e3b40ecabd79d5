use Rattle.std.proofs.Common.{inl, inr}
use Rattle.std.proofs.lemmas.Result.{IfOk-weaker, IfErr-weaker}
use Rattle.exb_audit_files.proofs.UniqueAnswers.{journal_fault, journal_is}
use Rattle.exb_audit_files.proofs.texts.read_journal.Goals as goal

pub returns-clause-lines : goal.returns-clause-lines
returns-clause-lines g c = λ t.
    IfOk-weaker c.read_lines.result _ _ (λ lines h. record { text = h.text; there = h.there; small = h.small; gives = journal_is h.text lines.items h.gives }) (c.read_lines.ensures.lines t)

pub returns-clause-refused : goal.returns-clause-refused
returns-clause-refused g c = λ t.
    IfErr-weaker c.read_lines.result _ _
    (λ fault h. elim h [ inl flaw ↦ inl (journal_fault c.args.limit (g.S.Shelf.file c.args.shelf.now c.args.name.now) fault flaw) | inr other ↦ inr other ]) (c.read_lines.ensures.refused t)
