use Rattle.std.proofs.Common.{◌≡◌, ◌∙◌, ap, inr, refl, subst}
use Rattle.std.proofs.lemmas.Result.{err_from_is_err_and}
use Rattle.exb_model.specs.Setup.{shape_of}
use Rattle.exb_shelf.proofs.IdLemmas.{opens_none}
use Rattle.exb_audit_files.specs.declared.port_files.Grammar.TheVariants.{Classic}
use Rattle.exb_audit_files.specs.FrameFiles.{AreRead, records_by}
use Rattle.exb_inputs.proofs.ShelfEffects.{counts_memory, counts_ok}
use Rattle.exb_audit_files.specs.Audits.{most}
use Rattle.exb_audit_files.specs.Scopes.{output_files, scope_of}
use Rattle.exb_audit_files.proofs.AuditCounts.{outputs_counted}
use Rattle.exb_audit_files.proofs.AuditSteps.{opens_outputs, outputs_of, outputs_stop}
use Rattle.exb_audit_files.proofs.audit_command.read_outputs.Goals as goal

-- memory ran out, and nothing was opened
pub returns-in_err-tree : goal.returns-in_err-tree
returns-in_err-tree g c =
    let e = err_from_is_err_and c.from_residual.result c.from_residual.ensures.1 in
    rw (e.1, e.2) (record {
      read = λ t. tt;
      stops = λ t. inr (inr refl);
      causes = tt;
      opened = opens_none _ _;
      files = λ n. refl;
      faults = counts_memory _ _ refl;
    })

pub returns-in_err-files : goal.returns-in_err-files
returns-in_err-files g c =
    let e = err_from_is_err_and c.from_residual-in_err-files.result c.from_residual-in_err-files.ensures.1 in
    rw (e.1, e.2) (record {
      read = λ t. tt;
      stops = λ t. inr (inr refl);
      causes = tt;
      opened = opens_none _ _;
      files = λ n. refl;
      faults = counts_memory _ _ refl;
    })

-- they were read
pub returns-in-Ok : goal.returns-in-Ok
returns-in-Ok g c =
    let t = c.args.topology.now in
    let f = g.S.Shelf.file c.args.shelf.now in
    let e = c.in-Ok.ensures in
    let files : c.as_slice.result.now ≡ output_files (shape_of t.setup) t.prefix =
    c.as_slice.ensures.value ∙ c.in_ok-files.ensures ∙ ap (λ s. output_files s c.as_str.result.now) c.in_ok-tree.ensures ∙ ap (output_files (shape_of t.setup)) c.as_str.ensures in
    record {
      read = λ told. subst (λ xs. AreRead (records_by Classic) f most xs c.in-Ok.frames.items) files (e.frames told);
      stops = λ told. tt;
      causes = tt;
      opened = opens_outputs (scope_of t) c.as_slice.result.now _ _ files e.opened;
      files = e.files;
      faults = counts_ok c.in-Ok.frames _ _ e.faults.once;
    }

-- they weren't
pub returns : goal.returns
returns g c =
    let t = c.args.topology.now in
    let f = g.S.Shelf.file c.args.shelf.now in
    let e = c.in-Err.ensures in
    let files : c.as_slice.result.now ≡ output_files (shape_of t.setup) t.prefix =
    c.as_slice.ensures.value ∙ c.in_ok-files.ensures ∙ ap (λ s. output_files s c.as_str.result.now) c.in_ok-tree.ensures ∙ ap (output_files (shape_of t.setup)) c.as_str.ensures in
    rw c.outputs_fault.ensures (record {
      read = λ told. tt;
      stops = λ told. outputs_stop (scope_of t) f c.as_slice.result.now c.in-Err.fault files (e.refused told);
      causes = outputs_of c.in-Err.fault e.port;
      opened = opens_outputs (scope_of t) c.as_slice.result.now _ _ files e.opened;
      files = e.files;
      faults = outputs_counted c.in-Err.fault _ _ e.faults;
    })
