use Rattle.std.proofs.Common.{◌≡◌, ◌<◌, ◌*◌, ◌^◌, []}
use Rattle.std.specs.Prelude.{IfSome}
use Rattle.exb_shelf.specs.Files.{SameFiles, bytes_of}
use Rattle.exb_shelf.specs.Shelf.{NoFewer}
use Rattle.exb_capture.specs.CaptureFiles.{IsAt, IsSameFile, IsSound, HasRead, MovesOn, left_to_read}
use Rattle.exb_capture.specs.Scans.{HasCounted}
use Rattle.exb_capture.proofs.scans.scan_on.Given as goal

abbrev pub invariant-records : goal.invariant-records
invariant-records g l =
    let S = g.S.Shelf in
    let bytes = bytes_of (S.file l.fn.shelf (S.ids l.fn.shelf l.fn.file.id).name) in
    record {
      at : IsAt (S.ids l.shelf l.file.id) l.file.got;
      sound : IsSound l.file;
      same : IsSameFile l.fn.file l.file;
      counted : S.tells → HasRead bytes [] l.fn.file → HasCounted bytes l.file (record { bytes = 0; records = l.count; first = l.first });
      first : IfSome l.first (λ k. k < 2 ^ 32 * 1_000_000_000);
      moves : MovesOn l.fn.file.id (S.ids l.fn.shelf) (S.ids l.shelf);
      files : SameFiles (S.file l.fn.shelf) (S.file l.shelf);
      faulted : S.faults l.shelf ≡ S.faults l.fn.shelf;
      faults : NoFewer (S.faults l.fn.shelf) (S.faults l.shelf);
    }

abbrev pub decreases-records : goal.decreases-records
decreases-records g l = left_to_read l.file
