use Rattle.std.proofs.Common.{rules, ◌≡◌, ◌++◌, ◌∷◌, [], refl}
use Rattle.std.proofs.lemmas.Result.{on_err_weaker, on_ok_weaker}
use Rattle.exb_model.specs.Traces.{trace_line}
use Rattle.exb_journal.specs.declared.file_names.OutputKind.TheVariants as output
use Rattle.exb_outputs.specs.WrittenTexts.{pieces_of}
use Rattle.exb_outputs.proofs.WrittenTexts.{more_spelled}
use Rattle.exb_outputs.proofs.OutputPrefixes.{cut_more, cut_now, cut_spelled}
use Rattle.exb_outputs.proofs.trace_lines.add_line.Goals as goal

pub returns-then-is_err-clause-cut : goal.returns-then-is_err-clause-cut
returns-then-is_err-clause-cut g c = λ t orig text p.
    let file = g.S.Shelf.file c.args.shelf.now in
    cut_more c.args.manifest.now orig file text output.Trace (trace_line c.args.one.now ++ 10 ∷ [])
    (cut_now c.args.manifest.now orig file (pieces_of c.args.outputs.now) text p)

pub returns-clause-texts : goal.returns-clause-texts
returns-clause-texts g c = λ t.
    let written : c.as_slice.result.now ≡ trace_line c.args.one.now ++ 10 ∷ [] = search rules in
    on_ok_weaker c.write.result
    (λ added orig text p.
    more_spelled c.args.manifest.now orig (g.S.Shelf.file c.write.new.shelf) (pieces_of c.write.new.self) text output.Trace output.Trace _ _ refl written (added orig text p))
    (c.write.ensures.texts t)

pub returns-clause-cut : goal.returns-clause-cut
returns-clause-cut g c = λ t.
    let written : c.as_slice.result.now ≡ trace_line c.args.one.now ++ 10 ∷ [] = search rules in
    on_err_weaker c.write.result
    (λ cut orig text p.
    cut_spelled c.args.manifest.now orig (g.S.Shelf.file c.write.new.shelf) text output.Trace output.Trace _ _ refl written (cut orig text p))
    (c.write.ensures.cut t)
