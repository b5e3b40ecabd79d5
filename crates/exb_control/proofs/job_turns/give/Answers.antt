use Rattle.std.proofs.Common.{sym, ◌∙◌}
use Rattle.std.proofs.lemmas.Result.{on_ok_weaker}
use Rattle.exb_control_spec.specs.declared.job.Job.TheVariants as job
use Rattle.exb_control_spec.proofs.FirstJobs.{fit_more}
use Rattle.exb_control.proofs.job_turns.give.Goals as goal

pub wake-requires-clause-fit : goal.wake-requires-clause-fit
wake-requires-clause-fit c =
    rw c.in_ok-push.ensures (fit_more c.args.core.now.active.shape c.args.queue.now (job.Ordered c.args.number c.args.command.now) c.requires.fit c.requires.names)

pub returns-clause-reached : goal.returns-clause-reached
returns-clause-reached c = on_ok_weaker c.wake.result (λ reached f same is. reached f same (is ∙ sym c.in_ok-push.ensures)) c.wake.ensures.reached
