use Rattle.std.proofs.Common.{◌≡◌, false, take}
use Rattle.std.specs.List.{AllByRecursion}
use Rattle.exb_timeline.specs.NetMergeOrder.{AreAllReplays, IsAgenda, all_ids, programmes_in}
use Rattle.exb_shelf.specs.Files.{SameFiles}
use Rattle.exb_shelf.specs.Shelf.{Opens}
use Rattle.exb_net.specs.ReopenedCaptures.{AreReopened, ReadsRest, start_of_told, streams_of}
use Rattle.exb_net.proofs.preparation.open_agenda.Given as goal

-- The bridges so far are opened again.
abbrev pub invariant-loop-bridge : goal.invariant-loop-bridge
invariant-loop-bridge g l =
    let S = g.S.Shelf in
    record {
      agenda : IsAgenda (S.ids l.shelf) l.agenda;
      own : AreReopened (start_of_told l.checked) (take l.bridge l.rests) (take l.bridge l.checked) (programmes_in l.agenda);
      fresh : AllByRecursion (λ k. (S.ids l.fn.shelf k).given ≡ false) (all_ids (programmes_in l.agenda));
      named : AllByRecursion (λ k. ReadsRest l.rests (S.ids l.shelf k)) (all_ids (programmes_in l.agenda));
      told : S.tells → AreAllReplays (S.file l.shelf) (S.ids l.shelf) (programmes_in l.agenda) (streams_of (take l.bridge l.rests) (take l.bridge l.checked) (S.file l.fn.shelf));
      opens : Opens (ReadsRest l.rests) (S.ids l.fn.shelf) (S.ids l.shelf);
      files : SameFiles (S.file l.fn.shelf) (S.file l.shelf);
      counted : S.faults l.shelf ≡ S.faults l.fn.shelf;
    }
