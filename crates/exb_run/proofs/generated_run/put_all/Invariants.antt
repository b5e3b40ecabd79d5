use Rattle.std.proofs.Common.{take}
use Rattle.exb_shelf.specs.ScratchFiles.{scratch_files}
use Rattle.exb_run.specs.GeneratedCaptures.{KeepsFirst}
use Rattle.exb_run.proofs.generated_run.put_all.Given as goal

abbrev pub invariant-putting : goal.invariant-putting
invariant-putting l = KeepsFirst l.captures (take l.capture-index l.captures) l.names.items (scratch_files l.shelf)
