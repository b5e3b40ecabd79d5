use Rattle.std.proofs.Common.{sym, ap, ◌∙◌}
use Rattle.std.proofs.lemmas.Result.{IfOk-weaker}
use Rattle.exb_model.specs.Configuration.{Bridge}
use Rattle.exb_control_spec.specs.Plans.HeldNumbers.{Held}
use Rattle.exb_control_spec.specs.PlannedExchanges.{requests_in}
use Rattle.exb_control_spec.specs.Decisions.{Decide}
use Rattle.exb_control.specs.ActiveConfigs.{bridge_in, held_in, bridge_at_end, held_at_end}
use Rattle.exb_control.specs.Controls.{decide_of}
use Rattle.exb_control.proofs.NextJobs.{same_decide}
use Rattle.exb_control.proofs.PlannedExchanges.{none_waits}
use Rattle.exb_control.proofs.planned_exchanges.waiting.Goals as goal

pub returns-then-is_empty-clause-count : goal.returns-then-is_empty-clause-count
returns-then-is_empty-clause-count c =
    let v = c.args.active.now in
    none_waits (decide_of v) (bridge_at_end v.stage (bridge_in v)) (held_at_end v.stage (held_in v)) c.args.queue.now (sym c.is_empty.ensures ∙ c.if-is_empty.true)

pub returns-clause-count : goal.returns-clause-count
returns-clause-count c =
    let v = c.args.active.now in
    let trial = c.in_ok-trial.trial in
    let made = c.in_ok-trial.ensures in
    let q = c.args.queue.now in
    IfOk-weaker c.count_jobs-count.result _ _ (λ count is. is
    ∙ ap (λ (d : Decide). requests_in d (bridge_in trial) (held_in trial) q) (same_decide v trial made.shape made.limits)
    ∙ ap (λ (b : Bridge). requests_in (decide_of v) b (held_in trial) q) made.config
    ∙ ap (λ (h : Held). requests_in (decide_of v) (bridge_at_end v.stage (bridge_in v)) h q) made.held) c.count_jobs-count.ensures.count
