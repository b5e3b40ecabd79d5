use Rattle.std.proofs.Common.{◌≡◌, ◌≤◌, ◌+◌, ◌-◌, List, None, cond}
use Rattle.exb_model.specs.Input.{Record}
use Rattle.exb_shelf.specs.Files.{SameFiles, bytes_of}
use Rattle.exb_shelf.specs.Shelf.{NoFewer}
use Rattle.exb_capture.specs.CaptureFiles.{IsAt, IsSameFile, IsSound, HasRead, MovesOn, left_to_read}
use Rattle.exb_capture.proofs.capture_file.CaptureFile.ahead.Given as goal

abbrev pub invariant-looking : goal.invariant-looking
invariant-looking g l =
    let S = g.S.Shelf in
    let bytes = bytes_of (S.file l.fn.shelf (S.ids l.fn.shelf l.fn.self.id).name) in
    record {
      at : IsAt (S.ids l.shelf l.self.id) l.self.got;
      unseen : l.self.next ≡ None;
      sound : IsSound l.self;
      same : IsSameFile l.fn.self l.self;
      left : left_to_read l.self ≤ left_to_read l.fn.self;
      read : S.tells → (xs : List Record) → HasRead bytes xs l.fn.self → HasRead bytes xs l.self;
      moves : MovesOn l.fn.self.id (S.ids l.fn.shelf) (S.ids l.shelf);
      files : SameFiles (S.file l.fn.shelf) (S.file l.shelf);
      counted : S.faults l.shelf ≡ S.faults l.fn.shelf;
      faults : NoFewer (S.faults l.fn.shelf) (S.faults l.shelf);
    }

abbrev pub decreases-looking : goal.decreases-looking
decreases-looking g l = (l.self.limit - l.self.got) + cond l.self.ended 0 1
