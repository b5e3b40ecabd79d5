use Rattle.std.proofs.Common.{◌≡◌, ◌≤◌, ◌-◌, ℕ, length, take}
use Rattle.exb_shelf.specs.Shelf.{NoFewer}
use Rattle.exb_shelf.specs.Files.{Adds}
use Rattle.exb_shelf.proofs.whole_files.write_text.Given as goal

abbrev pub invariant-loop-at : goal.invariant-loop-at
invariant-loop-at g l =
    let S = g.S.Shelf in
    record {
      place : l.at ≤ length l.text;
      file : S.tells → Adds (S.file l.fn.shelf) (S.file l.shelf) (S.ids l.fn.shelf l.id).name (take l.at l.text);
      kept : (j : ℕ) → S.ids l.shelf j ≡ S.ids l.fn.shelf j;
      counted : S.faults l.shelf ≡ S.faults l.fn.shelf;
      faults : NoFewer (S.faults l.fn.shelf) (S.faults l.shelf);
    }

abbrev pub decreases-loop-at : goal.decreases-loop-at
decreases-loop-at g l = length l.text - l.at
