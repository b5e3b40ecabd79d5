use Rattle.std.proofs.Common.{◌≡◌, ◌≢◌, ◌≤◌, ◌+◌, ◌-◌, ℕ, true, false, Some, length, take}
use Rattle.exb_shelf.specs.Files.{SameFiles, bytes_of}
use Rattle.exb_shelf.specs.Shelf.{NoFewer, reading}
use Rattle.exb_audit_files.specs.LineFeeds.{HasCut}
use Rattle.exb_audit_files.proofs.lines.read_lines.Given as goal

abbrev pub invariant-pieces : goal.invariant-pieces
invariant-pieces g l =
    let S = g.S.Shelf in
    let bytes = bytes_of (S.file l.fn.shelf l.name) in
    record {
      there : S.tells → S.file l.fn.shelf l.name ≡ Some bytes;
      cut : S.tells → HasCut g.L.Line.reads (take l.got bytes) l.lines;
      within : S.tells → l.got ≤ length bytes;
      most : l.got ≤ l.limit + 65536;
      piece : length l.piece ≡ 65536;
      id : S.ids l.shelf l.id ≡ reading l.name l.got;
      kept : (j : ℕ) → (S.ids l.fn.shelf j).given ≡ true → S.ids l.shelf j ≡ S.ids l.fn.shelf j;
      others : (j : ℕ) → j ≢ l.id → S.ids l.shelf j ≡ S.ids l.fn.shelf j;
      fresh : (S.ids l.fn.shelf l.id).given ≡ false;
      files : SameFiles (S.file l.fn.shelf) (S.file l.shelf);
      faults : NoFewer (S.faults l.fn.shelf) (S.faults l.shelf);
      counted : S.faults l.shelf ≡ S.faults l.fn.shelf;
    }

abbrev pub decreases-pieces : goal.decreases-pieces
decreases-pieces g l = (l.limit + 1) - l.got
