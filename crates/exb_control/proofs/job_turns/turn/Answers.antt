use Rattle.std.proofs.Common.{List, sym, ap, ◌∙◌}
use Rattle.exb_control_spec.specs.declared.job.Job.{Job}
use Rattle.exb_control.specs.Queues.{after_first}
use Rattle.exb_control.specs.Controls.{decide_of}
use Rattle.exb_control_spec.specs.Machine.{goes_on}
use Rattle.exb_control.specs.MachineSteps.{rest_of, reached_by}
use Rattle.exb_control.proofs.NextJobs.{none_waits, first_waits, starts_busy, starts_resting, first_is}
use Rattle.exb_control.proofs.job_turns.turn.Goals as goal

pub returns-in_default-clause-ends : goal.returns-in_default-clause-ends
returns-in_default-clause-ends c _ f same =
    none_waits (decide_of c.args.core.now.active) c.args.queue.now f c.args.core.now _ _ _ c.requires.stage (sym c.first.ensures ∙ c.in_default.is)

pub returns-then-waits-clause-ends : goal.returns-then-waits-clause-ends
returns-then-waits-clause-ends c _ f same =
    first_waits (decide_of c.args.core.now.active) c.args.queue.now c.in-Some.job f c.args.heard.now c.args.core.now _ _ _ c.requires.stage (sym c.first.ensures ∙ c.in-Some.is) same
    (sym c.waits.ensures ∙ c.if-waits.true)

pub returns-clause-ends : goal.returns-clause-ends
returns-clause-ends c busy f same =
    let made = c.in_ok-start.ensures in
    let old = c.args.core.now in
    let first = first_is c.args.queue.now c.in-Some.job (sym c.first.ensures ∙ c.in-Some.is) in
    rw c.remove_first.ensures
    (starts_busy (decide_of old.active) c.in-Some.job (after_first c.args.queue.now) f c.args.heard.now old c.start.new.core _ _ _ _ _ _ same
    (sym c.waits.ensures ∙ c.if-waits.false) (made.reached f) made.rests (sym c.is_at_rest.ensures ∙ busy)
    ∙ ap (λ (q : List Job). reached_by (goes_on (decide_of old.active) q (rest_of f old)) c.args.out.now.events c.args.out.now.asks c.args.out.now.downs) (sym first))

pub returns-clause-goes : goal.returns-clause-goes
returns-clause-goes c rest f same =
    let made = c.in_ok-start.ensures in
    let old = c.args.core.now in
    let first = first_is c.args.queue.now c.in-Some.job (sym c.first.ensures ∙ c.in-Some.is) in
    rw c.remove_first.ensures
    (starts_resting (decide_of old.active) c.in-Some.job (after_first c.args.queue.now) f c.args.heard.now old c.start.new.core _ _ _ _ _ _ same
    (sym c.waits.ensures ∙ c.if-waits.false) (made.reached f) (sym c.is_at_rest.ensures ∙ rest)
    ∙ ap (λ (q : List Job). reached_by (goes_on (decide_of old.active) q (rest_of f old)) c.args.out.now.events c.args.out.now.asks c.args.out.now.downs) (sym first))
