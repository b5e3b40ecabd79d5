use Rattle.std.proofs.Common.{◌∙◌, arith}
use Rattle.exb_plan.proofs.SetFolds.{put_repeated}
use Rattle.exb_plan.proofs.group_sets.put_next.Goals as goal

pub returns-then-are_same : goal.returns-then-are_same
returns-then-are_same c old so_far =
    so_far ∙ put_repeated old c.args.more.now c.args.place c.index-more-place.result c.index-more-place-then-place-gt0.result
    (omega (arith, c.if-place-gt0.true)) c.requires c.index-more-place.is c.index-more-place-then-place-gt0.is (c.are_same.ensures c.if-are_same.true)
