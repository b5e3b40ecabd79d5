use Rattle.std.proofs.Common.{◌≡◌, ◌+◌, take}
use Rattle.exb_shelf.specs.Files.{SameFiles}
use Rattle.exb_shelf.specs.Shelf.{Opens, NoFewer}
use Rattle.exb_audit_files.specs.FrameFiles.{EachIsRead, ReadsOneOf, records_by, total}
use Rattle.exb_audit_files.proofs.port_files.read_frames.Given as goal

abbrev pub invariant-files : goal.invariant-files
invariant-files g l =
    let S = g.S.Shelf in
    record {
      each : S.tells → EachIsRead (records_by l.grammar) (S.file l.fn.shelf) (take l.one-index l.files) l.all.items;
      rest : S.tells → total (S.file l.fn.shelf) (take l.one-index l.files) + l.left ≡ l.limit;
      opened : Opens (ReadsOneOf l.files) (S.ids l.fn.shelf) (S.ids l.shelf);
      kept : SameFiles (S.file l.fn.shelf) (S.file l.shelf);
      faults : NoFewer (S.faults l.fn.shelf) (S.faults l.shelf);
      counted : S.faults l.shelf ≡ S.faults l.fn.shelf;
    }
