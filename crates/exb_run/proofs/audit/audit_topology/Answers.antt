use Rattle.std.proofs.Common.{◌⊎◌, ◌≡◌, ◌∙◌, subst}
use Rattle.std.specs.Prelude.{IfErr, IfOk, string_bytes}
use Rattle.std.proofs.lemmas.Result.{err_from_is_err_and}
use Rattle.exb_inputs.proofs.ShelfEffects.{counts_from}
use Rattle.exb_shelf.specs.Files.{Files}
use Rattle.exb_inputs.specs.declared.fault.Fault.{Fault}
use Rattle.exb_inputs.specs.declared.fault.Fault.TheVariants.{Read, Memory}
use Rattle.exb_audit_files.specs.Audits.{IsFoundLegal, StopsAudit}
use Rattle.exb_audit_files.specs.Scopes.{scope_of}
use Rattle.exb_run.proofs.OpenedFiles.{audit_refused_opens, opens_by_audit}
use Rattle.exb_run.proofs.RunLemmas.{came_audit_refused, came_audited}
use Rattle.exb_inputs.proofs.Outcomes.{files_same}
use Rattle.exb_run.proofs.audit.audit_topology.Goals as goal

pub returns-in_err-topology-clause-came : goal.returns-in_err-topology-clause-came
returns-in_err-topology-clause-came g c =
    let p = err_from_is_err_and c.from_residual.result c.from_residual.ensures.1 in
    let x : Fault = c.in_err-topology.field-0.0 in
    let found = c.in_err-topology.ensures in
    rw (p.1, p.2) (came_audit_refused g.S.Shelf.tells c.args.name.now _ _ x found.refused found.causes found.files)

pub returns-in_err-topology-clause-opens : goal.returns-in_err-topology-clause-opens
returns-in_err-topology-clause-opens g c =
    let p = err_from_is_err_and c.from_residual.result c.from_residual.ensures.1 in
    rw (p.1, p.2) (audit_refused_opens g.S.Shelf.tells _ c.args.name.now _ _ c.in_err-topology.ensures.opened _)

pub returns-clause-came : goal.returns-clause-came
returns-clause-came g c =
    let S = g.S.Shelf in
    let t = c.in_ok-topology.topology in
    let found = c.in_ok-topology.ensures in
    let f = S.file c.args.shelf.now in
    let read = S.file c.read_topology.new.shelf in
    let o = c.audit-audited.result in
    let same = files_same f read found.files in
    came_audited S.tells c.args.name.now f (S.file c.audit-audited.new.shelf) t found.read (λ n. c.audit-audited.ensures.files n ∙ found.files n) o
    (λ told. subst (λ (k : Files). IfOk o (λ text. IsFoundLegal (scope_of t) k (string_bytes text))) same (c.audit-audited.ensures.legal told)) c.audit-audited.ensures.says
    (λ told. subst (λ (k : Files). IfErr o (λ x. StopsAudit (scope_of t) k x ⊎ (x ≡ Read) ⊎ (x ≡ Memory))) same (c.audit-audited.ensures.cause told)) c.audit-audited.ensures.causes

pub returns-clause-opens : goal.returns-clause-opens
returns-clause-opens g c =
    let found = c.in_ok-topology.ensures in
    opens_by_audit g.S.Shelf.tells _ c.args.name.now _ _ found.opened c.audit-audited.result c.in_ok-topology.topology _ found.read c.audit-audited.ensures.causes c.audit-audited.ensures.opened

pub returns-clause-faults : goal.returns-clause-faults
returns-clause-faults g c = counts_from c.audit-audited.result _ _ _ c.in_ok-topology.ensures.faults.once c.audit-audited.ensures.faults
