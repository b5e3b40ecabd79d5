use Rattle.std.proofs.Common.{ℕ, List, take, ◌≡◌}
use Rattle.exb_model.specs.Traces.{trace_text}
use Rattle.exb_shelf.specs.Files.{Files}
use Rattle.exb_shelf.specs.Shelf.{NoFewer}
use Rattle.exb_journal.specs.declared.file_names.OutputKind.TheVariants as output
use Rattle.exb_journal.specs.declared.file_names.OutputKind.{OutputKind}
use Rattle.exb_outputs.specs.CaptureSizes.{SameCaptures}
use Rattle.exb_outputs.specs.ShelfEffects.{OnlyWrites}
use Rattle.exb_outputs.specs.WrittenTexts.{pieces_of, HasTexts, IsReady, with_more}
use Rattle.exb_outputs.proofs.trace_lines.write_trace.Given as goal

abbrev pub invariant-loop-one : goal.invariant-loop-one
invariant-loop-one g l =
    let S = g.S.Shelf in
    record {
      ready : IsReady l.manifest (S.ids l.shelf) l.outputs;
      texts : S.tells → (orig : Files) (text : OutputKind → List ℕ) → HasTexts l.manifest (pieces_of l.fn.outputs) orig (S.file l.fn.shelf) text
          → HasTexts l.manifest (pieces_of l.outputs) orig (S.file l.shelf) (with_more text output.Trace (trace_text (take l.one-index l.lines)));
      same : SameCaptures l.manifest l.fn.outputs l.outputs;
      only : OnlyWrites S.tells l.manifest (S.file l.fn.shelf) (S.file l.shelf) (S.ids l.fn.shelf) (S.ids l.shelf);
      faults : NoFewer (S.faults l.fn.shelf) (S.faults l.shelf);
      counted : S.faults l.shelf ≡ S.faults l.fn.shelf;
    }
