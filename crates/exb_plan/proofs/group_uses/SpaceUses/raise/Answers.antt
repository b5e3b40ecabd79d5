use Rattle.std.proofs.Common.{◌-◌, ◌<◌, length, arith}
use Rattle.exb_plan.specs.UseCounts.{padded}
use Rattle.exb_plan.proofs.UseRows.{padded_length, padded_raised}
use Rattle.exb_plan.proofs.group_uses.SpaceUses.raise.Goals as goal

pub returns-then-count-eq0-clause-ok : goal.returns-then-count-eq0-clause-ok
returns-then-count-eq0-clause-ok c =
    let row = c.self.inside.counts.items in
    let limit = c.self.inside.limit in
    let sized = padded_length limit row c.self.invariant.1 in
    let there : c.args.group - 4096 < length (padded limit row) = rw c.self.view_is c.requires.there in
    rw (← c.self.view_is)
    (padded_raised limit (c.args.group - 4096) c.index-count.result.now row c.reach.new.counts.items (omega (arith, sized, there)) c.reach.ensures.items c.index-count.ensures)

pub returns-else-count-eq0-clause-ok : goal.returns-else-count-eq0-clause-ok
returns-else-count-eq0-clause-ok c =
    let row = c.self.inside.counts.items in
    let limit = c.self.inside.limit in
    let sized = padded_length limit row c.self.invariant.1 in
    let there : c.args.group - 4096 < length (padded limit row) = rw c.self.view_is c.requires.there in
    rw (← c.self.view_is)
    (padded_raised limit (c.args.group - 4096) c.index-count.result.now row c.reach.new.counts.items (omega (arith, sized, there)) c.reach.ensures.items c.index-count.ensures)
