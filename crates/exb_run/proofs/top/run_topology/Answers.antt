use Rattle.std.proofs.Common.{◌+◌, inl, inr, ℕ, Some, subst}
use Rattle.std.proofs.lemmas.Result.{err_from_is_err_and}
use Rattle.exb_inputs.proofs.ShelfEffects.{counts_from}
use Rattle.exb_shelf.specs.Files.{Files}
use Rattle.exb_inputs.specs.declared.fault.Fault.{Fault}
use Rattle.exb_shelf.specs.Shelf.{Opens}
use Rattle.exb_inputs.specs.CaptureChecks.{FirstFault}
use Rattle.exb_inputs.specs.ShelfEffects.{ReadsBelow}
use Rattle.exb_run.proofs.OpenedFiles.{run_refused_opens, opens_by_run}
use Rattle.exb_cli.specs.CommandLines.{Run}
use Rattle.exb_run.proofs.FinishedRuns.{came_finished, counts_finished, opens_finished, run_finished}
use Rattle.exb_run.proofs.OpenOrder.{run_opens}
use Rattle.exb_run.proofs.RunLemmas.{PlaysOut, came_run_refused, came_played}
use Rattle.exb_inputs.proofs.Outcomes.{files_same}
use Rattle.exb_run.proofs.top.run_topology.Goals as goal

pub returns-in_err-topology-clause-came : goal.returns-in_err-topology-clause-came
returns-in_err-topology-clause-came g c =
    let p = err_from_is_err_and c.from_residual.result c.from_residual.ensures.1 in
    let x : Fault = c.in_err-topology.field-0.0 in
    let found = c.in_err-topology.ensures in
    rw (p.1, p.2) (came_run_refused g.S.Shelf.tells c.args.name.now _ _ x found.refused found.causes found.files c.args.options)

pub returns-in_err-topology-clause-opens : goal.returns-in_err-topology-clause-opens
returns-in_err-topology-clause-opens g c =
    let p = err_from_is_err_and c.from_residual.result c.from_residual.ensures.1 in
    rw (p.1, p.2) (run_refused_opens g.S.Shelf.tells _ c.args.name.now _ _ c.in_err-topology.ensures.opened c.args.options _)

pub returns-clause-came : goal.returns-clause-came
returns-clause-came g c =
    let S = g.S.Shelf in
    let t = c.in_ok-topology.topology in
    let found = c.in_ok-topology.ensures in
    let f = S.file c.args.shelf.now in
    let h = S.file c.play_topology-played.new.shelf in
    let o = c.play_topology-played.result in
    let is = c.play_topology-played.ensures in
    came_finished S.tells (Some (Run c.args.name.now c.args.options)) tt o c.finished.result f h (S.file c.finished.new.shelf) c.finished.ensures.files c.finished.ensures.ends
    (came_played S.tells c.args.name.now c.args.options t f h found.read o
    (subst (λ (k : Files). PlaysOut S.tells c.args.options t o k h) (files_same f (S.file c.read_topology.new.shelf) found.files) (record {
      good = is.good;
      done = is.done;
      says = is.says;
      cause = is.cause;
      stops = is.stops;
      causes = is.causes;
      early = is.early;
      stopped = is.stopped;
      others = is.others;
      fronts = is.fronts;
      parts = is.parts;
    })))

pub returns-clause-opens : goal.returns-clause-opens
returns-clause-opens g c =
    let S = g.S.Shelf in
    let found = c.in_ok-topology.ensures in
    let f = S.file c.args.shelf.now in
    let read = S.file c.read_topology.new.shelf in
    opens_finished S.tells (Some (Run c.args.name.now c.args.options)) c.play_topology-played.result c.finished.result f _ _ _ c.finished.ensures.ids c.finished.ensures.ends
    (opens_by_run S.tells f c.args.name.now _ _ found.opened c.args.options c.play_topology-played.result c.in_ok-topology.topology read (S.ids c.play_topology-played.new.shelf) found.read
    (files_same f read found.files) c.play_topology-played.ensures.causes c.play_topology-played.ensures.opened c.play_topology-played.ensures.played)

pub returns-in_err-topology-clause-order : goal.returns-in_err-topology-clause-order
returns-in_err-topology-clause-order g c =
    let p = err_from_is_err_and c.from_residual.result c.from_residual.ensures.1 in
    rw (p.1, p.2) (inl (c.in_err-topology.ensures.causes, c.in_err-topology.ensures.opened))

pub returns-clause-order : goal.returns-clause-order
returns-clause-order g c =
    let S = g.S.Shelf in
    let t = c.in_ok-topology.topology in
    let found = c.in_ok-topology.ensures in
    let is = c.play_topology-played.ensures in
    run_finished S.tells c.args.name.now c.args.options c.play_topology-played.result c.finished.result (S.file c.args.shelf.now) _ _ _ c.finished.ensures.ids c.finished.ensures.ends
    (inr (run_opens S.tells c.args.name.now c.args.options c.play_topology-played.result t (S.file c.args.shelf.now) _ _ (S.ids c.play_topology-played.new.shelf) found.opened found.read is.files is.made is.behind is.port is.own
    (subst (λ (k : Files). S.tells → (p : ℕ) (fault : Fault) → FirstFault t.captures k p fault → Opens (ReadsBelow t.captures (p + 1)) (S.ids c.read_topology.new.shelf) (S.ids c.play_topology-played.new.shelf))
    (files_same (S.file c.args.shelf.now) (S.file c.read_topology.new.shelf) found.files) is.upto)))

pub returns-clause-faults : goal.returns-clause-faults
returns-clause-faults g c =
    counts_finished c.play_topology-played.result c.finished.result _ _ _ c.finished.ensures.ends
    (counts_from c.play_topology-played.result _ _ _ c.in_ok-topology.ensures.faults.once c.play_topology-played.ensures.faults) c.finished.ensures.faults c.finished.ensures.none
