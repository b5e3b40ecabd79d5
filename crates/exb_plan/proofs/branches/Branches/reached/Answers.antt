use borrow.Author.Count.{below_more}
use Rattle.std.proofs.Common.{◌/◌, arith}
use Rattle.exb_plan.proofs.PartLists.{word_some, word_within}
use Rattle.exb_plan.proofs.branches.Branches.reached.Goals as goal

pub loop-device-preserved : goal.loop-device-preserved
loop-device-preserved c =
    below_more _ _ (λ n l some low. c.mark.ensures.kept _ (c.loop-device.invariant n l some low)) (λ some low. c.mark.ensures.marked some low)

pub returns : goal.returns
returns c q there low =
    let sized = c.args.set.now.sized in
    c.loop-device.invariant (q / 64) (let n = word_within c.args.set.now.words q sized there in omega (arith, n)) (word_some c.args.set.now.words q there) low
