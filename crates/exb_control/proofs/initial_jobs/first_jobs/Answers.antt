use Rattle.std.proofs.Common.{◌≤◌, length, ap, ◌∙◌}
use Rattle.std.specs.List.{flat_map}
use Rattle.std.proofs.lemmas.List.{take_all}
use Rattle.exb_control_spec.specs.InitialState.{jobs_of}
use Rattle.exb_control_spec.proofs.FirstJobs.{all_starts}
use Rattle.exb_control.proofs.FirstJobs.{starts_next, number_low}
use Rattle.exb_control.proofs.initial_jobs.first_jobs.Goals as goal

pub put_ups-requires : goal.put_ups-requires
put_ups-requires c = number_low c.args.tree.now c.order-order.result.now c.loop-extender.extender-index c.order-order.ensures c.loop-extender-test.true

pub loop-extender-preserved : goal.loop-extender-preserved
loop-extender-preserved c =
    starts_next c.args.tree.now c.order-order.result.now c.loop-extender.extender-index _ _ _ c.order-order.ensures c.loop-extender-test.true c.loop-extender.invariant
    c.in_ok-push.ensures c.in_ok-put_ups.ensures

pub returns : goal.returns
returns c =
    let ns = c.order-order.result.now in
    let long : length ns ≤ c.loop-extender.extender-index = c.loop-extender-test.false in
    c.loop-extender.invariant
    ∙ ap (flat_map (jobs_of c.args.tree.now)) (take_all c.loop-extender.extender-index ns long)
    ∙ ap (flat_map (jobs_of c.args.tree.now)) c.order-order.ensures
    ∙ all_starts c.args.tree.now
