use Rattle.std.proofs.Common.{◌≡◌, ◌≢◌, ◌+◌, ◌-◌, ℕ, true, false, Some, length, take}
use Rattle.exb_shelf.specs.Files.{SameFiles, bytes_of}
use Rattle.exb_shelf.specs.Shelf.{NoFewer, reading}
use Rattle.exb_shelf.proofs.whole_files.read_file.Given as goal

abbrev pub invariant-pieces : goal.invariant-pieces
invariant-pieces g l =
    let S = g.S.Shelf in
    record {
      there : S.tells → S.file l.fn.shelf l.name ≡ Some (bytes_of (S.file l.fn.shelf l.name));
      front : S.tells → take (length l.bytes.items) (bytes_of (S.file l.fn.shelf l.name)) ≡ l.bytes.items;
      piece : length l.piece ≡ 65536;
      id : S.ids l.shelf l.id ≡ reading l.name (length l.bytes.items);
      kept : (j : ℕ) → (S.ids l.fn.shelf j).given ≡ true → S.ids l.shelf j ≡ S.ids l.fn.shelf j;
      others : (j : ℕ) → j ≢ l.id → S.ids l.shelf j ≡ S.ids l.fn.shelf j;
      fresh : (S.ids l.fn.shelf l.id).given ≡ false;
      files : SameFiles (S.file l.fn.shelf) (S.file l.shelf);
      counted : S.faults l.shelf ≡ S.faults l.fn.shelf;
      faults : NoFewer (S.faults l.fn.shelf) (S.faults l.shelf);
    }

abbrev pub decreases-pieces : goal.decreases-pieces
decreases-pieces g l = (l.limit + 1) - length l.bytes.items
