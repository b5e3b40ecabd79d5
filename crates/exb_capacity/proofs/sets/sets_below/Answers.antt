use Rattle.exb_capacity.proofs.SetCounts.{counted_below}
use Rattle.exb_capacity.proofs.sets.sets_below.Goals as goal

pub returns : goal.returns
returns c t b are = counted_below c.sets_of_each.ensures t b c.args.sets.now c.args.place c.count_below.result c.requires are c.count_below.ensures
