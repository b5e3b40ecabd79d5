use Rattle.std.proofs.Common.{◌≡◌, ◌+◌, ◌*◌, ◌++◌, List, sym, ap, ◌∙◌, arith, append_assoc}
use Rattle.std.specs.List.{range_with_len}
use Rattle.exb_model.specs.Tree.{is_external}
use Rattle.exb_control_spec.specs.declared.job.Job.{Job}
use Rattle.exb_control.specs.MachineSteps.{up_if}
use Rattle.exb_control_spec.proofs.FirstJobs.{ups, all_ups}
use Rattle.exb_control.proofs.FirstJobs.{ups_more}
use Rattle.exb_control.proofs.initial_jobs.put_ups.Goals as goal

pub loop-place-preserved : goal.loop-place-preserved
loop-place-preserved c =
    let t = c.args.tree.now in
    let a = 64 * c.args.extender in
    let p = c.loop-place.place in
    c.in_ok-put_up.ensures
    ∙ ap (λ q. c.loop-place.queue ++ up_if (is_external t q) q) c.at.ensures
    ∙ ap (λ (js : List Job). js ++ up_if (is_external t (a + p)) (a + p)) c.loop-place.invariant
    ∙ append_assoc c.args.queue.now (ups t (range_with_len a p)) (up_if (is_external t (a + p)) (a + p))
    ∙ ap (λ (js : List Job). c.args.queue.now ++ js) (sym (ups_more t a p))

pub returns : goal.returns
returns c =
    let end : c.loop-place.place ≡ 64 = omega arith in
    c.loop-place.invariant ∙ ap (λ n. c.args.queue.now ++ ups c.args.tree.now (range_with_len (64 * c.args.extender) n)) end
    ∙ ap (λ (js : List Job). c.args.queue.now ++ js) (sym (all_ups c.args.tree.now c.args.extender))
