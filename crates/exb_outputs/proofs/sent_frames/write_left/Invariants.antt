use Rattle.std.proofs.Common.{ℕ, List, take, ◌≡◌}
use Rattle.exb_shelf.specs.Files.{Files}
use Rattle.exb_shelf.specs.Shelf.{NoFewer}
use Rattle.exb_journal.specs.declared.file_names.OutputKind.{OutputKind}
use Rattle.exb_model.specs.FlatBridge.{Sent}
use Rattle.exb_outputs.specs.CaptureSizes.{HasSent}
use Rattle.exb_outputs.specs.ShelfEffects.{OnlyWrites}
use Rattle.exb_outputs.specs.WrittenTexts.{pieces_of, HasTexts, IsReady}
use Rattle.exb_outputs.specs.SentFrames.{sent_with, with_left_frames}
use Rattle.exb_outputs.proofs.sent_frames.write_left.Given as goal

abbrev pub invariant-loop-frame : goal.invariant-loop-frame
invariant-loop-frame g l =
    let S = g.S.Shelf in
    record {
      ready : IsReady l.manifest (S.ids l.shelf) l.outputs;
      texts : S.tells → (orig : Files) (text : OutputKind → List ℕ) → HasTexts l.manifest (pieces_of l.fn.outputs) orig (S.file l.fn.shelf) text
          → HasTexts l.manifest (pieces_of l.outputs) orig (S.file l.shelf) (with_left_frames text (take l.frame-index l.left));
      sent : (sent : ℕ → List Sent) → HasSent l.manifest l.fn.outputs sent → HasSent l.manifest l.outputs (sent_with sent (take l.frame-index l.left));
      only : OnlyWrites S.tells l.manifest (S.file l.fn.shelf) (S.file l.shelf) (S.ids l.fn.shelf) (S.ids l.shelf);
      faults : NoFewer (S.faults l.fn.shelf) (S.faults l.shelf);
      counted : S.faults l.shelf ≡ S.faults l.fn.shelf;
    }
