use Rattle.std.proofs.Common.{◌-◌, ◌<◌, length, sym, ◌∙◌, arith}
use Rattle.std.proofs.lemmas.List.{length-set}
use Rattle.exb_plan.proofs.UseRows.{kept_use, kept_within, lowered_last, lowered_one, padded_lowered}
use Rattle.exb_plan.proofs.group_uses.SpaceUses.lower.Goals as goal

pub index-count-requires : goal.index-count-requires
index-count-requires c =
    let there : c.args.group - 4096 < length c.self.inside.counts.items = kept_within c.self.inside.limit (c.args.group - 4096) c.self.inside.counts.items (rw c.self.view_is c.requires.used) in
    omega (arith, there)

pub overflow_sub-count : goal.overflow_sub-count
overflow_sub-count c = kept_use c.self.inside.limit (c.args.group - 4096) c.index-count.result.now c.self.inside.counts.items (rw c.self.view_is c.requires.used) c.index-count.ensures

pub overflow_sub-self : goal.overflow_sub-self
overflow_sub-self c =
    let row = c.self.inside.counts.items in
    let place = c.args.group - 4096 in
    let there : place < length row = kept_within c.self.inside.limit place row (rw c.self.view_is c.requires.used) in
    let last = lowered_last place c.index-count.result.now row there c.index-count.ensures c.if-count-eq1.true in
    omega (arith, last, c.self.invariant.0)

pub invariant_of-self : goal.invariant_of-self
invariant_of-self c =
    let row = c.self.inside.counts.items in
    let place = c.args.group - 4096 in
    let there : place < length row = kept_within c.self.inside.limit place row (rw c.self.view_is c.requires.used) in
    let last = lowered_last place c.index-count.result.now row there c.index-count.ensures c.if-count-eq1.true in
    let sized = length-set row place (c.index-count.result.now - 1) in
    (omega (arith, last, c.self.invariant.0), omega (arith, sized, c.self.invariant.1), c.self.invariant.2, c.self.invariant.3)

pub invariant_of-self-else-count-eq1 : goal.invariant_of-self-else-count-eq1
invariant_of-self-else-count-eq1 c =
    let row = c.self.inside.counts.items in
    let place = c.args.group - 4096 in
    let there : place < length row = kept_within c.self.inside.limit place row (rw c.self.view_is c.requires.used) in
    let some : 0 < c.index-count.result.now = kept_use c.self.inside.limit place c.index-count.result.now row (rw c.self.view_is c.requires.used) c.index-count.ensures in
    let one = lowered_one place c.index-count.result.now row there c.index-count.ensures (omega (arith, some, c.if-count-eq1.false)) in
    let sized = length-set row place (c.index-count.result.now - 1) in
    (c.self.invariant.0 ∙ sym one, omega (arith, sized, c.self.invariant.1), c.self.invariant.2, c.self.invariant.3)

pub returns-then-count-eq1 : goal.returns-then-count-eq1
returns-then-count-eq1 c =
    let row = c.self.inside.counts.items in
    let limit = c.self.inside.limit in
    let place = c.args.group - 4096 in
    let there : place < length row = kept_within limit place row (rw c.self.view_is c.requires.used) in
    rw (← c.self.view_is) (padded_lowered limit place c.index-count.result.now row there c.index-count.ensures)

pub returns-else-count-eq1 : goal.returns-else-count-eq1
returns-else-count-eq1 c =
    let row = c.self.inside.counts.items in
    let limit = c.self.inside.limit in
    let place = c.args.group - 4096 in
    let there : place < length row = kept_within limit place row (rw c.self.view_is c.requires.used) in
    rw (← c.self.view_is) (padded_lowered limit place c.index-count.result.now row there c.index-count.ensures)
