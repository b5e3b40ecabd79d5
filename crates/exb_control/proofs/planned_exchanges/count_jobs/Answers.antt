use Rattle.std.proofs.Common.{ap, ◌∙◌, arith}
use Rattle.exb_control_spec.specs.Decisions.{Decide}
use Rattle.exb_control_spec.specs.PlannedExchanges.{requests_of, bridge_left, held_left}
use Rattle.exb_control.specs.ActiveConfigs.{bridge_in, held_in}
use Rattle.exb_control.specs.Controls.{decide_of}
use Rattle.exb_control.proofs.NextJobs.{same_decide}
use Rattle.exb_control.proofs.PlannedExchanges.{next_fits, requests_next, none_left}
use Rattle.exb_control.proofs.planned_exchanges.count_jobs.Goals as goal

pub run-requires-clause-fits : goal.run-requires-clause-fits
run-requires-clause-fits c =
    let inv = c.jobs.invariant in
    rw inv.shape (next_fits c.args.active.now.shape c.args.queue.now c.jobs.at c.item.result c.item.ensures inv.fit).0

pub jobs-preserved : goal.jobs-preserved
jobs-preserved c =
    let inv = c.jobs.invariant in
    let v0 = c.args.active.now in
    let v = c.jobs.active in
    let made = c.in_ok-count.ensures in
    let same = same_decide v0 v inv.shape inv.limits in
    let few = inv.few in
    let more = made.few in
    record {
      stage = made.stage;
      shape = made.shape ∙ inv.shape;
      limits = made.limits ∙ inv.limits;
      fit = (next_fits v0.shape c.args.queue.now c.jobs.at c.item.result c.item.ensures inv.fit).1;
      rest = requests_next (decide_of v0) (bridge_in v) _ (held_in v) _ c.args.queue.now c.jobs.at c.jobs.count _ _ c.item.result c.item.ensures
          (made.count ∙ ap (λ (d : Decide). requests_of (d (bridge_in v) (held_in v) c.item.result)) same)
          (made.bridge ∙ ap (λ (d : Decide). bridge_left c.item.result (d (bridge_in v) (held_in v) c.item.result) (bridge_in v)) same)
          (made.held ∙ ap (λ (d : Decide). held_left (d (bridge_in v) (held_in v) c.item.result) (held_in v)) same)
          inv.rest;
      few = omega arith;
    }

pub returns-clause-count : goal.returns-clause-count
returns-clause-count c =
    let inv = c.jobs.invariant in
    none_left (decide_of c.args.active.now) (bridge_in c.jobs.active) (held_in c.jobs.active) c.args.queue.now c.jobs.at c.jobs.count _ (omega arith) inv.rest
