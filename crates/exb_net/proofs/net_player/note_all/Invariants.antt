use Rattle.std.proofs.Common.{◌≡◌, ◌-◌, ◌≤◌, ℕ, length}
use Rattle.std.specs.Prelude.{slice_get}
use Rattle.exb_shelf.specs.Shelf.{NoFewer}
use Rattle.exb_net_laws.specs.NetRuns.{Dones}
use Rattle.exb_net.specs.WrittenOutputs.{AllGoTogether, AreMore, AreNoted, AreReady, OnlyWritesAll, manifests_in}
use Rattle.exb_net.proofs.OutputsApart.{upto}
use Rattle.exb_net.proofs.net_player.note_all.Given as goal

abbrev pub invariant-noting : goal.invariant-noting
invariant-noting g l =
    let S = g.S.Shelf in
    record {
      manifests : manifests_in l.desks.items ≡ manifests_in l.fn.desks.items;
      rest : (b : ℕ) → l.from ≤ b → slice_get l.desks.items b ≡ slice_get l.fn.desks.items b;
      ready : AreReady (S.ids l.shelf) l.desks.items;
      noted : (told dones : Dones) → AllGoTogether told l.net.nodes.items → AreMore told dones l.net.nodes.items → AreNoted S.tells (S.file l.fn.shelf) l.fn.desks.items told →
          AreNoted S.tells (S.file l.shelf) l.desks.items (upto l.from told dones);
      only : OnlyWritesAll S.tells (manifests_in l.fn.desks.items) (S.file l.fn.shelf) (S.file l.shelf) (S.ids l.fn.shelf) (S.ids l.shelf);
      faults : NoFewer (S.faults l.fn.shelf) (S.faults l.shelf);
      counted : S.faults l.shelf ≡ S.faults l.fn.shelf;
    }

abbrev pub decreases-noting : goal.decreases-noting
decreases-noting g l = length l.net.nodes.items - l.from
