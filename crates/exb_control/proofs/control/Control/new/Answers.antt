use Rattle.std.proofs.Common.{sym, ap, ◌∙◌}
use Rattle.exb_control_spec.specs.InitialState.{first_jobs}
use Rattle.exb_control.specs.MachineSteps.{askers_of}
use Rattle.exb_control.proofs.Calls.{when_ok}
use Rattle.exb_control.proofs.Askers.{begun_all}
use Rattle.exb_control.proofs.FirstState.{begins_as, begins_kept}
use Rattle.exb_control.proofs.control.Control.new.Goals as goal

pub invariant_of-result : goal.invariant_of-result
invariant_of-result c =
    let made = c.in_ok-active.ensures in
    let askers = ap askers_of c.in_ok-sessions.ensures ∙ begun_all 65 in
    let jobs = when_ok c.first_jobs-begun.result (sym c.is_err.ensures.value ∙ c.if-is_err.false) c.first_jobs-begun.ensures ∙ ap first_jobs (c.tree.ensures ∙ made.shape) in
    begins_kept c.args.setup.now (record { active = c.in_ok-active.active; place = 0; sessions = c.in_ok-sessions.sessions })
    c.first_jobs-begun.new.queue c.new-3.result made.shape made.stage jobs askers

pub returns-clause-state : goal.returns-clause-state
returns-clause-state c =
    let made = c.in_ok-active.ensures in
    let askers = ap askers_of c.in_ok-sessions.ensures ∙ begun_all 65 in
    let jobs = when_ok c.first_jobs-begun.result (sym c.is_err.ensures.value ∙ c.if-is_err.false) c.first_jobs-begun.ensures ∙ ap first_jobs (c.tree.ensures ∙ made.shape) in
    begins_as c.args.setup.now (record { active = c.in_ok-active.active; place = 0; sessions = c.in_ok-sessions.sessions })
    c.first_jobs-begun.new.queue c.new-3.result made.shape made.stage jobs askers made.config made.held c.new-3.ensures
