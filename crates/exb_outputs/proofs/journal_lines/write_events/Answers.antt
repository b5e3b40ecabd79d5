use Rattle.std.proofs.Common.{rules, refl}
use Rattle.std.proofs.lemmas.Result.{on_err_weaker, on_ok_weaker}
use Rattle.exb_journal.specs.declared.file_names.OutputKind.TheVariants as output
use Rattle.exb_outputs.specs.WrittenTexts.{pieces_of}
use Rattle.exb_outputs.proofs.WrittenTexts.{more_spelled}
use Rattle.exb_outputs.proofs.OutputPrefixes.{cut_spelled}
use Rattle.exb_outputs.proofs.journal_lines.write_events.Goals as goal

pub returns-in-Some-clause-texts : goal.returns-in-Some-clause-texts
returns-in-Some-clause-texts g c = λ t.
    on_ok_weaker c.write.result
    (λ added orig text p.
    more_spelled c.args.manifest.now orig (g.S.Shelf.file c.write.new.shelf) (pieces_of c.write.new.self) text output.Journal output.Journal _ _ refl (search rules) (added orig text p))
    (c.write.ensures.texts t)

pub returns-in-Some-clause-cut : goal.returns-in-Some-clause-cut
returns-in-Some-clause-cut g c = λ t.
    on_err_weaker c.write.result
    (λ cut orig text p.
    cut_spelled c.args.manifest.now orig (g.S.Shelf.file c.write.new.shelf) text output.Journal output.Journal _ _ refl (search rules) (cut orig text p))
    (c.write.ensures.cut t)
