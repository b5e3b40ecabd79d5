use Rattle.std.proofs.Common.{◌≡◌, ℕ, List, [], ap, sym, subst}
use Rattle.exb_journal.specs.declared.file_names.OutputKind.TheVariants as output
use Rattle.exb_outputs.specs.Counts.{counts_text}
use Rattle.exb_outputs.specs.WrittenTexts.{HasTexts, pieces_of, with_more}
use Rattle.exb_outputs.proofs.WrittenTexts.{no_more}
use Rattle.exb_net.proofs.bridge_outputs.write_counts.Goals as goal

pub returns-in-None-clause-texts : goal.returns-in-None-clause-texts
returns-in-None-clause-texts g c tells orig text held =
    let manifest = c.args.manifest.now in
    let file = g.S.Shelf.file c.args.shelf.now in
    let pieces = pieces_of c.args.outputs.now in
    let none : [] ≡ counts_text manifest c.args.counted.now.ports c.args.outputs.now = sym (ap (λ ports. counts_text manifest ports c.args.outputs.now) c.in-None.is) in
    subst (λ (counts : List ℕ). HasTexts manifest pieces orig file (with_more text output.Counters counts)) none (no_more manifest orig file pieces text output.Counters held)
