use Rattle.std.proofs.Common.{◌≡◌, ◌+◌, ◌≤◌, ℕ, false, map, sum_by, take}
use Rattle.std.specs.List.{AllByRecursion}
use Rattle.exb_timeline.specs.CaptureMerges.{AreOpened, AreReplays, AreToldSince, ids_in, left_in, standings}
use Rattle.exb_shelf.specs.Files.{SameFiles}
use Rattle.exb_shelf.specs.Shelf.{NoFewer, Opens}
use Rattle.exb_inputs.specs.ReplayStart.{AreSince, first_standing, stream_told}
use Rattle.exb_inputs.specs.ShelfEffects.{ReadsCapture}
use Rattle.exb_inputs.proofs.replay_start.open_all.Given as goal

abbrev pub invariant-opening : goal.invariant-opening
invariant-opening g l =
    let S = g.S.Shelf in
    record {
      opened : AreOpened (S.ids l.shelf) l.captures;
      named : AllByRecursion (λ k. ReadsCapture l.names (S.ids l.shelf k)) (ids_in l.captures);
      fresh : AllByRecursion (λ k. (S.ids l.fn.shelf k).given ≡ false) (ids_in l.captures);
      standing : standings l.captures ≡ map first_standing (take l.one-index l.checked);
      left : left_in l.captures ≤ sum_by (λ c. c.told.bytes + 1) (take l.one-index l.checked);
      since : (second : ℕ) → AreSince second l.checked → AreToldSince second l.captures;
      streams : S.tells → AreReplays (S.file l.shelf) (S.ids l.shelf) l.captures.sources.items (map (stream_told l.names (S.file l.fn.shelf)) (take l.one-index l.checked));
      opens : Opens (ReadsCapture l.names) (S.ids l.fn.shelf) (S.ids l.shelf);
      files : SameFiles (S.file l.fn.shelf) (S.file l.shelf);
      faults : NoFewer (S.faults l.fn.shelf) (S.faults l.shelf);
      counted : S.faults l.shelf ≡ S.faults l.fn.shelf;
    }
