use Rattle.std.proofs.lemmas.Result.{err_from_is_err_and}
use Rattle.exb_inputs.proofs.Outcomes.{made-later}
use Rattle.exb_inputs.specs.declared.fault.Fault.{Fault}
use Rattle.exb_run.proofs.OpenedFiles.{check_opens}
use Rattle.exb_run.proofs.RunLemmas.{came_check_refused, came_checked}
use Rattle.exb_run.proofs.check.check_topology.Goals as goal

pub returns-in_err-topology-clause-came : goal.returns-in_err-topology-clause-came
returns-in_err-topology-clause-came g c =
    let p = err_from_is_err_and c.from_residual.result c.from_residual.ensures.1 in
    let x : Fault = c.in_err-topology.field-0.0 in
    let found = c.in_err-topology.ensures in
    rw (p.1, p.2) (came_check_refused g.S.Shelf.tells c.args.name.now _ _ x found.refused found.causes found.files)

pub returns-in_err-topology-clause-opens : goal.returns-in_err-topology-clause-opens
returns-in_err-topology-clause-opens g c =
    let p = err_from_is_err_and c.from_residual.result c.from_residual.ensures.1 in
    rw (p.1, p.2) (check_opens g.S.Shelf.tells _ c.args.name.now _ _ c.in_err-topology.ensures.opened _)

pub returns-clause-came : goal.returns-clause-came
returns-clause-came g c =
    let S = g.S.Shelf in
    let found = c.in_ok-topology.ensures in
    came_checked S.tells c.args.name.now (S.file c.args.shelf.now) (S.file c.read_topology.new.shelf) c.in_ok-topology.topology c.lines_of-lines.result
    found.read found.files c.lines_of-lines.ensures.lines c.lines_of-lines.ensures.memory

pub returns-clause-opens : goal.returns-clause-opens
returns-clause-opens g c = check_opens g.S.Shelf.tells _ c.args.name.now _ _ c.in_ok-topology.ensures.opened _

pub returns-clause-faults : goal.returns-clause-faults
returns-clause-faults g c = made-later c.lines_of-lines.result _ _ c.in_ok-topology.ensures.faults.once c.lines_of-lines.ensures.memory
