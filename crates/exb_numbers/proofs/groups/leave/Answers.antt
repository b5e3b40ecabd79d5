use Rattle.exb_numbers.specs.GroupOrder.{rank_of, ranks_at, SplitsAt}
use Rattle.exb_numbers.proofs.RisingPlaces.{split_absent}
use Rattle.exb_numbers.proofs.groups.leave.Goals as goal

pub returns-in_default-clause-order : goal.returns-in_default-clause-order
returns-in_default-clause-order c =
    let there = c.requires.there in
    let splits : SplitsAt (ranks_at c.args.sets.now) c.args.order.now.items (rank_of c.args.set.now) c.in_default.field-0 = rw (← c.as_slice.ensures.value) c.in_default.ensures in
    absurd (split_absent (ranks_at c.args.sets.now) c.args.order.now.items (rank_of c.args.set.now) c.in_default.field-0 there.0 splits there.1 there.2)
