use Rattle.std.proofs.Common.{◌≡◌, take}
use Rattle.exb_shelf.specs.Files.{SameFiles}
use Rattle.exb_shelf.specs.Shelf.{Opens}
use Rattle.exb_inputs.specs.MemberChecks.{AreAllMembersGood, AreMembersChecked}
use Rattle.exb_inputs.specs.OpenedNetFiles.{OpensCaptures, OpensEachOf, ReadsMemberBelow}
use Rattle.exb_inputs.proofs.member_captures.check_members.Given as goal

abbrev pub invariant-checking : goal.invariant-checking
invariant-checking g l =
    let S = g.S.Shelf in
    record {
      checked : AreMembersChecked S.tells (take l.member-index l.members) (S.file l.fn.shelf) l.checked.items;
      good : S.tells → AreAllMembersGood (take l.member-index l.members) (S.file l.fn.shelf);
      each : OpensEachOf (take l.member-index l.members) (S.ids l.fn.shelf) (S.ids l.shelf);
      opened : OpensCaptures (take l.member-index l.members) (S.ids l.fn.shelf) (S.ids l.shelf);
      below : Opens (ReadsMemberBelow l.members l.member-index 0) (S.ids l.fn.shelf) (S.ids l.shelf);
      files : SameFiles (S.file l.fn.shelf) (S.file l.shelf);
      same : S.faults l.shelf ≡ S.faults l.fn.shelf;
    }
