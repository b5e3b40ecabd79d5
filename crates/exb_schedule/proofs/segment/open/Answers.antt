use Rattle.std.proofs.Common.{◌∙◌, ap}
use Rattle.exb_bridge.specs.TreeIndexes.{Site, limits_in}
use Rattle.exb_schedule.proofs.PlayedSegments.{opened}
use Rattle.exb_schedule.proofs.segment.open.Goals as goal

pub returns-in-Ok-clause-plays : goal.returns-in-Ok-clause-plays
returns-in-Ok-clause-plays g c = λ m i is.
    let first = c.in_ok-world.ensures in
    opened m i c.args.setup.now c.in_ok-world.world c.open_armed.new.world is c.requires.valid c.new.ensures.vids first.world first.tree first.limits first.quiet c.in-Ok.ensures.ended

pub returns-in-Ok-clause-settled : goal.returns-in-Ok-clause-settled
returns-in-Ok-clause-settled g c = c.in-Ok.ensures.settled

pub returns-in-Ok-clause-tree : goal.returns-in-Ok-clause-tree
returns-in-Ok-clause-tree g c = ap (λ (s : Site). s.tree) c.in-Ok.ensures.ended.made.moved.same.site ∙ c.in_ok-world.ensures.tree

pub returns-in-Ok-clause-limits : goal.returns-in-Ok-clause-limits
returns-in-Ok-clause-limits g c = ap limits_in c.in-Ok.ensures.ended.made.moved.same.site ∙ c.in_ok-world.ensures.limits

pub returns-in-Ok-clause-awake : goal.returns-in-Ok-clause-awake
returns-in-Ok-clause-awake g c = c.in-Ok.ensures.ended.made.moved.same.failed ∙ c.in_ok-world.ensures.awake

pub returns-in-Ok-clause-tracing : goal.returns-in-Ok-clause-tracing
returns-in-Ok-clause-tracing g c = c.in-Ok.ensures.ended.made.moved.same.tracing ∙ c.in_ok-world.ensures.tracing
