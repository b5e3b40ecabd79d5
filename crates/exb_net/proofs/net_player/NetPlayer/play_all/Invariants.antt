use Rattle.std.proofs.Common.{◌≡◌, ℕ}
use Rattle.std.specs.Prelude.{None}
use Rattle.exb_timeline.specs.NetMergeOrder.{IsAgenda, IsOfBridge, all_ids, left_of_all, programmes_in}
use Rattle.exb_timeline.specs.CaptureMerges.{HasPort, standings}
use Rattle.exb_shelf.specs.Shelf.{NoFewer}
use Rattle.exb_net.specs.WrittenOutputs.{manifests_in}
use Rattle.exb_net.specs.ShelfEffects.{OnlyGoesOnAll}
use Rattle.exb_net.specs.NetInvariants.{AreOfRests, IsGoing, IsWithin, NetRun}
use Rattle.exb_net.proofs.net_player.NetPlayer.play_all.Given as goal

abbrev pub invariant-events : goal.invariant-events
invariant-events g l =
    let S = g.S.Shelf in
    record {
      agenda : IsAgenda (S.ids l.shelf) l.agenda;
      rests : AreOfRests l.rests (programmes_in l.agenda);
      going : (r : NetRun) → IsGoing S.tells r (S.file l.fn.shelf) (S.ids l.fn.shelf) None l.fn.self (programmes_in l.fn.agenda) → IsGoing S.tells r (S.file l.shelf) (S.ids l.shelf) l.last l.self (programmes_in l.agenda);
      budget : IsWithin l.self.net.nodes.items (λ x. (goal.Fate-dyn g (x.fate.vtable, x.fate.value)).left x.fate.value) (programmes_in l.agenda);
      same : all_ids (programmes_in l.agenda) ≡ all_ids (programmes_in l.fn.agenda);
      manifests : manifests_in l.self.desks.items ≡ manifests_in l.fn.self.desks.items;
      only : OnlyGoesOnAll S.tells (manifests_in l.fn.self.desks.items) (all_ids (programmes_in l.fn.agenda)) (S.file l.fn.shelf) (S.file l.shelf) (S.ids l.fn.shelf) (S.ids l.shelf);
      ports : (b q : ℕ) → IsOfBridge (programmes_in l.agenda) b (λ m. HasPort q (standings m.captures)) → IsOfBridge (programmes_in l.fn.agenda) b (λ m. HasPort q (standings m.captures));
      faults : NoFewer (S.faults l.fn.shelf) (S.faults l.shelf);
      none_counted : S.faults l.shelf ≡ S.faults l.fn.shelf;
    }

abbrev pub decreases-events : goal.decreases-events
decreases-events g l = left_of_all (programmes_in l.agenda)
