use Rattle.std.proofs.Common.{◌++◌}
use Rattle.exb_world.specs.WorldContracts.{world_of, tree_of, bounds_of}
use Rattle.exb_schedule.specs.SegmentRuns.{arrive, orders, tick}
use Rattle.exb_schedule.proofs.SegmentInput.{can_after, can_first, on_ok_any, run_gives}
use Rattle.exb_schedule.proofs.segment.give_all.Goals as goal

pub give-requires-clause-can : goal.give-requires-clause-can
give-requires-clause-can g c =
    let mid = c.let_pass.new.world in
    let cs = c.args.commands.now in
    let frames = c.args.arrivals.now in
    can_first (tree_of mid) (bounds_of mid) (orders cs) (arrive frames) (world_of mid) (can_after (tick c.args.seconds) (orders cs ++ arrive frames) c.args.world.now mid c.requires.can c.in_ok-let_pass.ensures.ok)

pub let_arrive-requires : goal.let_arrive-requires
let_arrive-requires g c =
    let cs = c.args.commands.now in
    let frames = c.args.arrivals.now in
    can_after (orders cs) (arrive frames) c.let_pass.new.world c.give.new.world
    (can_after (tick c.args.seconds) (orders cs ++ arrive frames) c.args.world.now c.let_pass.new.world c.requires.can c.in_ok-let_pass.ensures.ok) c.in_ok-give.ensures.ok

pub returns-clause-ok : goal.returns-clause-ok
returns-clause-ok g c =
    on_ok_any c.let_arrive.result
    (λ came.
    run_gives c.args.seconds c.args.commands.now c.args.arrivals.now c.args.world.now c.let_pass.new.world c.give.new.world c.let_arrive.new.world c.in_ok-let_pass.ensures.ok
    c.in_ok-give.ensures.ok came)
    c.let_arrive.ensures.ok
