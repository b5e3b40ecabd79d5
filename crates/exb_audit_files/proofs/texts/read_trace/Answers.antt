use Rattle.std.proofs.lemmas.Result.{IfOk-weaker}
use Rattle.exb_audit_files.proofs.UniqueAnswers.{trace_is}
use Rattle.exb_audit_files.proofs.texts.read_trace.Goals as goal

pub returns-clause-lines : goal.returns-clause-lines
returns-clause-lines g c = λ t.
    IfOk-weaker c.read_lines.result _ _ (λ lines h. record { text = h.text; there = h.there; small = h.small; gives = trace_is h.text lines.items h.gives }) (c.read_lines.ensures.lines t)
