use Rattle.std.proofs.Common.{Err, inl, inr, refl, ◌∙◌, ◌++◌, List, ℕ, ap, sym, length}
use Rattle.std.proofs.Math.Seq.{take-length}
use Rattle.exb_shelf.specs.FaultCounts.{after_print}
use Rattle.exb_shelf.specs.declared.shelf.ShelfFault.{ShelfFault}
use Rattle.exb_inputs.specs.Answers.{line_of}
use Rattle.exb_inputs.proofs.messages.report.Goals as goal

pub returns-in-Ok-clause-front : goal.returns-in-Ok-clause-front
returns-in-Ok-clause-front g c = λ t.
    (length (line_of c.args.outcome.now), c.in-Ok.ensures.ok t ∙ ap (λ (xs : List ℕ). g.O.Sink.text c.args.out.now ++ xs) (sym (take-length (line_of c.args.outcome.now))))

pub returns-in-Ok-clause-once : goal.returns-in-Ok-clause-once
returns-in-Ok-clause-once g c = inl (c.status.ensures, c.in-Ok.ensures.counts, λ t. c.in-Ok.ensures.ok t)

pub returns-in-Err-Failed-clause-once : goal.returns-in-Err-Failed-clause-once
returns-in-Err-Failed-clause-once g c =
    inr (inr (refl, c.in-Err-Failed.ensures.counts ∙ ap (λ (x : ShelfFault). after_print {X = Unit {0}} (Err x) (g.O.Sink.faults c.args.out.now)) c.in-Err-Failed.field-0-is, λ t. c.in-Err-Failed.ensures.short t))

pub returns-in-Err-Memory-clause-once : goal.returns-in-Err-Memory-clause-once
returns-in-Err-Memory-clause-once g c =
    inr (inl (refl, c.in-Err-Memory.ensures.counts ∙ ap (λ (x : ShelfFault). after_print {X = Unit {0}} (Err x) (g.O.Sink.faults c.args.out.now)) c.in-Err-Memory.field-0-is, λ t. c.in-Err-Memory.ensures.short t))
