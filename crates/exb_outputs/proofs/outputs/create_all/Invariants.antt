use Rattle.std.proofs.Common.{◌≡◌, ◌<◌, ℕ, [], length, slice_index, slice_index_or}
use Rattle.exb_shelf.specs.Files.{Filled}
use Rattle.exb_shelf.specs.Shelf.{NoFewer, Opens, writing}
use Rattle.exb_outputs.specs.CreationOrder.{MadeInOrder}
use Rattle.exb_outputs.specs.Manifests.{output_name, kind_at}
use Rattle.exb_outputs.specs.CaptureSizes.{records_of, sizes_of}
use Rattle.exb_outputs.specs.ShelfEffects.{WritesListed}
use Rattle.exb_outputs.specs.WrittenTexts.{ids_of, pieces_of, first_text}
use Rattle.exb_outputs.proofs.outputs.create_all.Given as goal

abbrev pub invariant-loop-at : goal.invariant-loop-at
invariant-loop-at g l =
    let S = g.S.Shelf in
    record {
      count : length l.outputs.files.items ≡ l.at;
      named : (j : ℕ) → j < l.at → S.ids l.shelf (slice_index (ids_of l.outputs) j) ≡ writing (output_name l.manifest j);
      texts : (j : ℕ) → j < l.at → slice_index_or (pieces_of l.outputs) j [] ≡ first_text (kind_at l.manifest j);
      records : (j : ℕ) → j < l.at → slice_index (records_of l.outputs) j ≡ 0;
      sizes : (j : ℕ) → j < l.at → slice_index (sizes_of l.outputs) j ≡ length (first_text (kind_at l.manifest j));
      files : S.tells → Filled (S.file l.fn.shelf) (S.file l.shelf) l.at (output_name l.manifest) (λ j bytes. bytes ≡ []);
      opened : Opens (WritesListed l.manifest) (S.ids l.fn.shelf) (S.ids l.shelf);
      made : MadeInOrder l.manifest l.at (S.ids l.fn.shelf) (S.ids l.shelf);
      faults : NoFewer (S.faults l.fn.shelf) (S.faults l.shelf);
      counted : S.faults l.shelf ≡ S.faults l.fn.shelf;
    }
