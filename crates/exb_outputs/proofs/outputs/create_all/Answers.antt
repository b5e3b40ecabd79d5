use Rattle.std.proofs.Common.{rules, ◌≡◌, ◌<◌, ◌∙◌, ℕ, List, [], ap, refl, get_or, slice_index, length, arith, subst}
use Rattle.std.proofs.lemmas.List.{length-map}
use Rattle.std.proofs.lemmas.Result.{err_from_is_err_and}
use Rattle.exb_inputs.proofs.ShelfEffects.{counts_as, counts_from, counts_ok}
use Rattle.exb_shelf.specs.Files.{Filled}
use Rattle.exb_shelf.proofs.FileLemmas.{filled_none, filled_one}
use Rattle.exb_shelf.proofs.IdLemmas.{opens_none, opens_then}
use Rattle.exb_outputs.specs.Manifests.{kind_at, output_count, output_name}
use Rattle.exb_outputs.specs.CaptureSizes.{records_of, sizes_of}
use Rattle.exb_outputs.specs.WrittenTexts.{ids_of, pieces_of, first_text}
use Rattle.exb_outputs.proofs.WrittenTexts.{more_named, more_texts, none_written}
use Rattle.exb_outputs.proofs.CaptureSizes.{first_sent, more_values, size_of}
use Rattle.exb_outputs.proofs.OutputPrefixes.{cut_made}
use Rattle.exb_outputs.proofs.CreationOrder.{made_more, made_none, makes_all, makes_some}
use Rattle.exb_outputs.proofs.outputs.create_all.Goals as goal

pub loop-at-init : goal.loop-at-init
loop-at-init g c = record {
  count = search rules;
  named = λ j l. absurd (omega arith);
  texts = λ j l. absurd (omega arith);
  records = λ j l. absurd (omega arith);
  sizes = λ j l. absurd (omega arith);
  files = λ t. filled_none _ _ _;
  opened = opens_none _ _;
  made = made_none c.args.manifest.now _;
  faults = search rules;
  counted = refl;
}

pub loop-at-preserved : goal.loop-at-preserved
loop-at-preserved g c =
    let S = g.S.Shelf in
    let before = c.loop-at.invariant in
    let made = c.in_ok-create_one.ensures in
    let name = output_name c.args.manifest.now in
    let all = c.loop-at.outputs.files.items in
    let ids = ids_of c.loop-at.outputs in
    let pieces = pieces_of c.loop-at.outputs in
    let first = λ (k : ℕ). first_text (kind_at c.args.manifest.now k) in
    let lt : c.loop-at.at < output_count c.args.manifest.now = omega arith in
    record {
      count = made.count;
      named = λ j l.
          ap (λ (xs : List ℕ). S.ids c.create_one.new.shelf (get_or xs j 0)) made.ids.1
          ∙ more_named (S.ids c.loop-at.shelf) (S.ids c.create_one.new.shelf) ids made.ids.0 c.loop-at.at name (length-map all (λ f. f.id) ∙ before.count) before.named made.opened.kept made.ids.2 j l;
      texts = λ j l.
          ap (λ (ps : List (List ℕ)). get_or ps j []) made.pieces
          ∙ more_texts pieces (first c.loop-at.at) c.loop-at.at first (length-map all (λ f. f.piece.items) ∙ before.count) before.texts refl j l;
      records = λ j l.
          ap (λ (xs : List ℕ). slice_index xs j) made.records
          ∙ more_values (records_of c.loop-at.outputs) 0 c.loop-at.at (λ k. 0) (length-map all (λ f. f.records) ∙ before.count) before.records refl j l;
      sizes = λ j l.
          ap (λ (xs : List ℕ). slice_index xs j) made.sizes
          ∙ more_values (sizes_of c.loop-at.outputs) (length (first c.loop-at.at)) c.loop-at.at (λ k. length (first k)) (length-map all size_of ∙ before.count) before.sizes refl j l;
      files = λ t.
          filled_one (S.file c.args.shelf.now) (S.file c.loop-at.shelf) (S.file c.create_one.new.shelf) (output_count c.args.manifest.now) c.loop-at.at name (λ j bytes. bytes ≡ [])
          [] (c.output_names_differ.ensures c.args.manifest.now) lt (before.files t) (made.empty t) refl;
      opened = opens_then _ _ _ _ before.opened made.opened;
      made = made_more c.args.manifest.now c.loop-at.at _ _ _ before.made before.opened.kept lt made.makes.0 made.makes.1;
      faults = search (arith, made.faults.none_fell, before.faults);
      counted = made.faults.once ∙ before.counted;
    }

pub returns : goal.returns
returns g c =
    let S = g.S.Shelf in
    let manifest = c.args.manifest.now in
    let made = c.loop-at.invariant in
    let all : c.loop-at.at ≡ output_count manifest = omega arith in
    record {
      ready = record { files = made.count ∙ all; named = λ j l. made.named j (omega arith) };
      texts = λ t.
          none_written manifest (S.file c.args.shelf.now) (S.file c.loop-at.shelf) (pieces_of c.loop-at.outputs) (λ k. first_text (kind_at manifest k))
          (λ j l. made.texts j (omega arith))
          (subst (λ (n : ℕ). Filled (S.file c.args.shelf.now) (S.file c.loop-at.shelf) n (output_name manifest) (λ j bytes. bytes ≡ [])) all (made.files t));
      sent = first_sent manifest c.loop-at.outputs (λ j l. made.records j (omega arith)) (λ j l. made.sizes j (omega arith));
      cut = λ t. tt;
      only = record {
        others = λ t m away. (made.files t).others m (λ j l. away j (omega arith));
        opened = made.opened;
      };
      made = makes_all manifest c.loop-at.at _ _ _ made.made (omega arith);
      causes = tt;
      faults = counts_ok _ (S.faults c.args.shelf.now) (S.faults c.loop-at.shelf) made.counted;
    }

-- an output could not be made, or memory ran out
pub returns-in_err-create_one : goal.returns-in_err-create_one
returns-in_err-create_one g c =
    let S = g.S.Shelf in
    let manifest = c.args.manifest.now in
    let e = err_from_is_err_and c.from_residual.result c.from_residual.ensures.1 in
    let before = c.loop-at.invariant in
    let made = c.in_err-create_one.ensures in
    rw (e.1, e.2) (record {
      ready = tt;
      texts = λ t. tt;
      sent = tt;
      cut = λ t text.
          cut_made manifest (S.file c.args.shelf.now) (S.file c.loop-at.shelf) (S.file c.create_one.new.shelf) c.loop-at.at (c.output_names_differ.ensures manifest) (omega arith)
          (before.files t) (made.stays t) text;
      only = record {
        others = λ t m away. made.others t m (λ same. away c.loop-at.at (omega arith) same) ∙ (before.files t).others m (λ j l. away j (omega arith));
        opened = opens_then _ _ _ _ before.opened made.opened;
      };
      made = makes_some manifest c.loop-at.at _ _ _ _ before.made before.opened.kept (omega arith) made.may_make made.causes;
      causes = made.causes;
      faults = counts_from _ _ _ _ before.counted (counts_as c.in_err-create_one.field-0.0 _ _ made.faults);
    })
