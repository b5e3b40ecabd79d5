use Rattle.std.proofs.Common.{◌≡◌, ◌<◌, ◌∙◌, length, refl, arith}
use Rattle.std.proofs.lemmas.Result.{err_from_is_err_and}
use Rattle.exb_outputs.specs.Manifests.{output_count, output_name}
use Rattle.exb_outputs.specs.WrittenTexts.{pieces_of}
use Rattle.exb_outputs.proofs.WrittenTexts.{can_be_written, name_of_file, is_flushed, more_empty, all_written, of_kind}
use Rattle.exb_outputs.proofs.OutputPrefixes.{cut_piece}
use Rattle.exb_outputs.proofs.ShelfEffects.{writes_from}
use Rattle.exb_outputs.proofs.CaptureSizes.{ready_with}
use Rattle.exb_outputs.proofs.outputs.Outputs.finish.Goals as goal

pub flush-requires : goal.flush-requires
flush-requires g c =
    let ready = c.loop-at.invariant.ready in
    let lt : c.loop-at.at < output_count c.args.manifest.now = omega arith in
    let inside : c.loop-at.at < length c.loop-at.self.files.items = omega arith in
    can_be_written (g.S.Shelf.ids c.loop-at.shelf) c.loop-at.self.files.items c.loop-at.at c.index_mut.result.now _ c.index_mut.ensures.value inside (ready.named c.loop-at.at lt)

pub loop-at-preserved : goal.loop-at-preserved
loop-at-preserved g c =
    let S = g.S.Shelf in
    let before = c.loop-at.invariant in
    let given = S.ids c.loop-at.shelf in
    let all = c.loop-at.self.files.items in
    let was = c.index_mut.result.now in
    let lt : c.loop-at.at < output_count c.args.manifest.now = omega arith in
    let inside : c.loop-at.at < length all = omega arith in
    let named : (given was.id).name ≡ output_name c.args.manifest.now c.loop-at.at = name_of_file given all c.loop-at.at was _ c.index_mut.ensures.value inside (before.ready.named c.loop-at.at lt) in
    record {
      ready = ready_with c.args.manifest.now given _ c.loop-at.self _ c.loop-at.at was c.flush.new.file refl inside c.index_mut.ensures.value c.flush.ensures.id c.flush.ensures.kept before.ready;
      empty = more_empty (λ f. f.piece.items) all c.loop-at.at c.flush.new.file inside c.in_ok-flush.ensures.empty before.empty;
      texts = λ t orig text p.
          is_flushed (λ f. f.piece.items) c.args.manifest.now orig (S.file c.loop-at.shelf) (S.file c.flush.new.shelf) all (of_kind c.args.manifest.now text) c.loop-at.at was
          c.flush.new.file _ (c.output_names_differ.ensures c.args.manifest.now) lt before.ready.files c.index_mut.ensures.value named
          (before.texts t orig text p) (c.in_ok-flush.ensures.written t) c.in_ok-flush.ensures.empty;
      only = record {
        others = λ t m away. c.in_ok-flush.ensures.others t m (λ e. away c.loop-at.at lt (e ∙ named)) ∙ before.only.others t m away;
        kept = λ j. c.in_ok-flush.ensures.kept j ∙ before.only.kept j;
      };
      faults = search (arith, c.in_ok-flush.ensures.faults.none_fell, before.faults);
      counted = c.in_ok-flush.ensures.faults.once ∙ before.counted;
    }

pub returns-clause-texts : goal.returns-clause-texts
returns-clause-texts g c = λ t orig text p.
    all_written c.args.manifest.now orig (g.S.Shelf.file c.loop-at.shelf) (pieces_of c.loop-at.self) (of_kind c.args.manifest.now text) (λ j l. c.loop-at.invariant.empty j (omega arith))
    (c.loop-at.invariant.texts t orig text p)

pub returns-in_err-flush-clause-cut : goal.returns-in_err-flush-clause-cut
returns-in_err-flush-clause-cut g c = λ t.
    let e = err_from_is_err_and c.from_residual.result c.from_residual.ensures.1 in
    rw e.1
    (λ orig text p.
    let S = g.S.Shelf in
    let before = c.loop-at.invariant in
    let given = S.ids c.loop-at.shelf in
    let all = c.loop-at.self.files.items in
    let was = c.index_mut.result.now in
    let lt : c.loop-at.at < output_count c.args.manifest.now = omega arith in
    let inside : c.loop-at.at < length all = omega arith in
    let named : (given was.id).name ≡ output_name c.args.manifest.now c.loop-at.at = name_of_file given all c.loop-at.at was _ c.index_mut.ensures.value inside (before.ready.named c.loop-at.at lt) in
    cut_piece (λ f. f.piece.items) c.args.manifest.now orig (S.file c.loop-at.shelf) (S.file c.flush.new.shelf) all text c.loop-at.at was _
    (c.output_names_differ.ensures c.args.manifest.now) lt before.ready.files c.index_mut.ensures.value named (before.texts t orig text p) (c.in_err-flush.ensures.front t))

pub returns-in_err-flush-clause-faults : goal.returns-in_err-flush-clause-faults
returns-in_err-flush-clause-faults g c =
    let e = err_from_is_err_and c.from_residual.result c.from_residual.ensures.1 in
    rw (e.1, e.2) (writes_from _ _ _ _ c.loop-at.invariant.counted c.in_err-flush.ensures.faults)

pub returns-in_err-flush-clause-only : goal.returns-in_err-flush-clause-only
returns-in_err-flush-clause-only g c =
    let before = c.loop-at.invariant in
    let given = g.S.Shelf.ids c.loop-at.shelf in
    let all = c.loop-at.self.files.items in
    let was = c.index_mut.result.now in
    let lt : c.loop-at.at < output_count c.args.manifest.now = omega arith in
    let inside : c.loop-at.at < length all = omega arith in
    let named : (given was.id).name ≡ output_name c.args.manifest.now c.loop-at.at = name_of_file given all c.loop-at.at was _ c.index_mut.ensures.value inside (before.ready.named c.loop-at.at lt) in
    record {
      others = λ t m away. c.flush.ensures.others t m (λ e. away c.loop-at.at lt (e ∙ named)) ∙ before.only.others t m away;
      kept = λ j. c.flush.ensures.kept j ∙ before.only.kept j;
    }
