use Rattle.std.proofs.Common.{◌≡◌, ◌<◌, ◌≤◌, ℕ}
use Rattle.std.specs.Prelude.{Some, slice_get}
use Rattle.exb_shelf.specs.Shelf.{NoFewer}
use Rattle.exb_net_laws.specs.NetRuns.{Dones}
use Rattle.exb_outputs.specs.WrittenTexts.{IsReady}
use Rattle.exb_outputs.specs.Counts.{counts_text}
use Rattle.exb_net.specs.declared.bridge_outputs.BridgeOutputs.{BridgeOutputs}
use Rattle.exb_net.specs.WrittenOutputs.{AreNoted, IsNoted, IsWhole, OnlyWritesAll, manifests_in, tallies_in, text_of}
use Rattle.exb_net.proofs.net_player.finish_all.Given as goal

abbrev pub invariant-loop-bridge : goal.invariant-loop-bridge
invariant-loop-bridge g l =
    let S = g.S.Shelf in
    record {
      manifests : manifests_in l.desks.items ≡ manifests_in l.fn.desks.items;
      tallies : tallies_in l.desks.items ≡ tallies_in l.fn.desks.items;
      rest : (b : ℕ) → l.bridge ≤ b → slice_get l.desks.items b ≡ slice_get l.fn.desks.items b;
      ready : (b : ℕ) (d : BridgeOutputs) → l.bridge ≤ b → slice_get l.fn.desks.items b ≡ Some d → IsReady d.manifest (S.ids l.shelf) d.outputs;
      noted : (dones : Dones) → AreNoted S.tells (S.file l.fn.shelf) l.fn.desks.items dones → (b : ℕ) (d : BridgeOutputs) → l.bridge ≤ b → slice_get l.fn.desks.items b ≡ Some d → IsNoted S.tells (S.file l.shelf) d (dones b);
      whole : S.tells → (dones : Dones) → AreNoted S.tells (S.file l.fn.shelf) l.fn.desks.items dones → (b : ℕ) (d : BridgeOutputs) → b < l.bridge → slice_get l.fn.desks.items b ≡ Some d →
          IsWhole d.manifest (S.file l.shelf) (text_of (dones b) (counts_text d.manifest d.counted.ports d.outputs));
      only : OnlyWritesAll S.tells (manifests_in l.fn.desks.items) (S.file l.fn.shelf) (S.file l.shelf) (S.ids l.fn.shelf) (S.ids l.shelf);
      faults : NoFewer (S.faults l.fn.shelf) (S.faults l.shelf);
      counted : S.faults l.shelf ≡ S.faults l.fn.shelf;
    }
