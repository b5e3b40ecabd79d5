use Rattle.std.proofs.Common.{◌≡◌, ◌<◌, ℕ, List, [], slice_index_or}
use Rattle.exb_shelf.specs.Files.{Files}
use Rattle.exb_shelf.specs.Shelf.{NoFewer}
use Rattle.exb_journal.specs.declared.file_names.OutputKind.{OutputKind}
use Rattle.exb_outputs.specs.ShelfEffects.{OnlyWrites}
use Rattle.exb_outputs.specs.WrittenTexts.{pieces_of, HasTexts, IsReady}
use Rattle.exb_outputs.proofs.outputs.Outputs.finish.Given as goal

abbrev pub invariant-loop-at : goal.invariant-loop-at
invariant-loop-at g l =
    let S = g.S.Shelf in
    record {
      ready : IsReady l.manifest (S.ids l.shelf) l.self;
      empty : (j : ℕ) → j < l.at → slice_index_or (pieces_of l.self) j [] ≡ [];
      texts : S.tells → (orig : Files) (text : OutputKind → List ℕ) → HasTexts l.manifest (pieces_of l.fn.self) orig (S.file l.fn.shelf) text
          → HasTexts l.manifest (pieces_of l.self) orig (S.file l.shelf) text;
      only : OnlyWrites S.tells l.manifest (S.file l.fn.shelf) (S.file l.shelf) (S.ids l.fn.shelf) (S.ids l.shelf);
      faults : NoFewer (S.faults l.fn.shelf) (S.faults l.shelf);
      counted : S.faults l.shelf ≡ S.faults l.fn.shelf;
    }
