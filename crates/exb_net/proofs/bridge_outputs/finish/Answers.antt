use Rattle.std.proofs.Common.{[], Some, ap, ◌∙◌}
use Rattle.std.proofs.lemmas.Result.{err_from_is_err_and, on_err_weaker, on_ok_weaker}
use Rattle.exb_journal.specs.declared.file_names.OutputKind.TheVariants as output
use Rattle.exb_outputs.specs.Manifests.{kind_at}
use Rattle.exb_outputs.specs.WrittenTexts.{pieces_of, with_more}
use Rattle.exb_outputs.proofs.OutputPrefixes.{cut_same}
use Rattle.exb_outputs.proofs.ShelfEffects.{writes_from, writes_then}
use Rattle.exb_outputs.specs.Counts.{counts_text}
use Rattle.exb_outputs.proofs.TextUpdates.{counts_written}
use Rattle.exb_net.specs.WrittenOutputs.{text_of}
use Rattle.exb_net.proofs.OutputUpdates.{fronts_cut, goes-counts}
use Rattle.exb_net.proofs.bridge_outputs.finish.Goals as goal

pub returns-clause-texts : goal.returns-clause-texts
returns-clause-texts g c tells =
    on_ok_weaker c.finish.result
    (λ last done is.
    let desk = c.args.desk.now in
    let old = g.S.Shelf.file c.args.shelf.now in
    let counts = counts_text desk.manifest desk.counted.ports desk.outputs in
    let whole = last old (with_more (text_of done []) output.Counters counts) (c.in_ok-write_counts.ensures.texts tells old (text_of done []) (is.texts tells)) in
    record {
      each = λ j low. let now = whole.each j low in now.1 ∙ ap Some (now.2 ∙ counts_written done.events done.left [] counts (kind_at desk.manifest j));
    })
    (c.finish.ensures.texts tells)

pub returns-in_err-write_counts-clause-cut : goal.returns-in_err-write_counts-clause-cut
returns-in_err-write_counts-clause-cut g c = λ t.
    let e = err_from_is_err_and c.from_residual.result c.from_residual.ensures.1 in
    rw e.1
    (λ done is.
    let desk = c.args.desk.now in
    let old = g.S.Shelf.file c.args.shelf.now in
    let new = g.S.Shelf.file c.write_counts.new.shelf in
    let counts = counts_text desk.manifest desk.counted.ports desk.outputs in
    record {
      counts = counts;
      each = fronts_cut desk.manifest (pieces_of desk.outputs) old new (text_of done []) (text_of done counts) (goes-counts done counts) (is.texts t)
          (cut_same desk.manifest old new _ (text_of done counts) (counts_written done.events done.left [] counts) (c.in_err-write_counts.ensures.cut t old (text_of done []) (is.texts t)));
    })

pub returns-clause-cut : goal.returns-clause-cut
returns-clause-cut g c tells =
    on_err_weaker c.finish.result
    (λ last done is.
    let desk = c.args.desk.now in
    let old = g.S.Shelf.file c.args.shelf.now in
    let new = g.S.Shelf.file c.finish.new.shelf in
    let counts = counts_text desk.manifest desk.counted.ports desk.outputs in
    record {
      counts = counts;
      each = fronts_cut desk.manifest (pieces_of desk.outputs) old new (text_of done []) (text_of done counts) (goes-counts done counts) (is.texts tells)
          (cut_same desk.manifest old new _ (text_of done counts) (counts_written done.events done.left [] counts)
          (last old (with_more (text_of done []) output.Counters counts) (c.in_ok-write_counts.ensures.texts tells old (text_of done []) (is.texts tells))));
    })
    (c.finish.ensures.cut tells)

pub returns-clause-only : goal.returns-clause-only
returns-clause-only g c = writes_then _ _ _ _ _ _ _ _ c.in_ok-write_counts.ensures.only c.finish.ensures.only

pub returns-clause-faults : goal.returns-clause-faults
returns-clause-faults g c = writes_from c.finish.result _ _ _ c.in_ok-write_counts.ensures.faults.once c.finish.ensures.faults
