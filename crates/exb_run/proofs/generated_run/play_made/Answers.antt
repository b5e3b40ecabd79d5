use Rattle.std.proofs.Common.{List, refl, subst, sym}
use Rattle.std.proofs.lemmas.Result.{err_from_is_err_and}
use Rattle.exb_make.specs.declared.captures.GeneratedCapture.{GeneratedCapture}
use Rattle.exb_shelf.specs.Files.{Files}
use Rattle.exb_shelf.specs.ScratchFiles.{scratch_files}
use Rattle.exb_topology_tables.specs.declared.elements.Named.{Named}
use Rattle.exb_run.specs.GeneratedCaptures.{KeepsFirst}
use Rattle.exb_run.proofs.generated_run.play_made.Goals as goal

pub returns-in_err-names : goal.returns-in_err-names
returns-in_err-names g c =
    let e = err_from_is_err_and c.from_residual.result c.from_residual.ensures.1 in
    rw (e.1, e.2) (record { line = tt; memory = refl })

pub play_kept-played-requires-clause-kept : goal.play_kept-played-requires-clause-kept
play_kept-played-requires-clause-kept g c =
    let all = c.args.input.now.captures.items in
    let file : Files = scratch_files c.put_all.new.shelf in
    subst (λ (names : List Named). KeepsFirst all all names file) (sym c.as_slice-2.ensures.value)
    (subst (λ (cs : List GeneratedCapture). KeepsFirst cs cs c.in_ok-names.names.items file) c.as_slice.ensures.value c.in_ok-names.ensures)
