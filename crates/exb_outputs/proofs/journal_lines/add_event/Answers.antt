use Rattle.std.proofs.Common.{rules, ◌++◌, ◌∷◌, [], refl}
use Rattle.std.proofs.lemmas.Result.{on_err_weaker, on_ok_weaker}
use Rattle.exb_model.specs.Texts.{line_of}
use Rattle.exb_journal.specs.declared.file_names.OutputKind.TheVariants as output
use Rattle.exb_outputs.specs.WrittenTexts.{pieces_of}
use Rattle.exb_outputs.proofs.WrittenTexts.{more_spelled}
use Rattle.exb_outputs.proofs.OutputPrefixes.{cut_more, cut_now, cut_spelled}
use Rattle.exb_outputs.proofs.journal_lines.add_event.Goals as goal

pub returns-in-Err-clause-cut : goal.returns-in-Err-clause-cut
returns-in-Err-clause-cut g c = λ t orig text p.
    let file = g.S.Shelf.file c.args.shelf.now in
    cut_more c.args.manifest.now orig file text output.Journal (line_of c.args.event.now ++ 10 ∷ [])
    (cut_now c.args.manifest.now orig file (pieces_of c.args.outputs.now) text p)

pub returns-in-Ok-clause-texts : goal.returns-in-Ok-clause-texts
returns-in-Ok-clause-texts g c = λ t.
    on_ok_weaker c.write.result
    (λ added orig text p.
    more_spelled c.args.manifest.now orig (g.S.Shelf.file c.write.new.shelf) (pieces_of c.write.new.self) text output.Journal output.Journal _ _ refl (search rules) (added orig text p))
    (c.write.ensures.texts t)

pub returns-in-Ok-clause-cut : goal.returns-in-Ok-clause-cut
returns-in-Ok-clause-cut g c = λ t.
    on_err_weaker c.write.result
    (λ cut orig text p.
    cut_spelled c.args.manifest.now orig (g.S.Shelf.file c.write.new.shelf) text output.Journal output.Journal _ _ refl (search rules) (cut orig text p))
    (c.write.ensures.cut t)
