use Rattle.std.proofs.Common.{ℕ, List, ◌++◌, All, ◌≡◌}
use Rattle.exb_shelf.specs.Files.{Files}
use Rattle.exb_shelf.specs.Shelf.{NoFewer}
use Rattle.exb_journal.specs.declared.file_names.OutputKind.{OutputKind}
use Rattle.exb_world_spec.specs.Worlds.{Left as Leaving}
use Rattle.exb_model.specs.FlatBridge.{Sent}
use Rattle.exb_outbox.specs.PortMaps.{ports_in}
use Rattle.exb_bridge.specs.BridgeWorlds.{copies_at, copies_of}
use Rattle.exb_outputs.specs.CaptureSizes.{HasSent}
use Rattle.exb_outputs.specs.ShelfEffects.{OnlyWrites}
use Rattle.exb_outputs.specs.WrittenTexts.{CanBeRecorded, pieces_of, HasTexts, IsReady}
use Rattle.exb_outputs.specs.SentFrames.{sent_with_copies, with_copies}
use Rattle.exb_outputs.proofs.sent_frames.write_row.Given as goal

-- what was done, and that what is left is the rest of it
abbrev pub invariant-loop-port : goal.invariant-loop-port
invariant-loop-port g l =
    let S = g.S.Shelf in
    (done : List Leaving)
    × record {
      all : done ++ copies_at l.left.moment l.left.bytes (ports_in l.rest) ≡ copies_of l.left;
      can : All (λ (y : Leaving). CanBeRecorded l.manifest y.port y.moment y.bytes) (copies_at l.left.moment l.left.bytes (ports_in l.rest));
      ready : IsReady l.manifest (S.ids l.shelf) l.outputs;
      texts : S.tells → (orig : Files) (text : OutputKind → List ℕ) → HasTexts l.manifest (pieces_of l.fn.outputs) orig (S.file l.fn.shelf) text
          → HasTexts l.manifest (pieces_of l.outputs) orig (S.file l.shelf) (with_copies text done);
      sent : (sent : ℕ → List Sent) → HasSent l.manifest l.fn.outputs sent → HasSent l.manifest l.outputs (sent_with_copies sent done);
      only : OnlyWrites S.tells l.manifest (S.file l.fn.shelf) (S.file l.shelf) (S.ids l.fn.shelf) (S.ids l.shelf);
      faults : NoFewer (S.faults l.fn.shelf) (S.faults l.shelf);
      counted : S.faults l.shelf ≡ S.faults l.fn.shelf;
    }

abbrev pub decreases-loop-port : goal.decreases-loop-port
decreases-loop-port g l = l.rest.ports
