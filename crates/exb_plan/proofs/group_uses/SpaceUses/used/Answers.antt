use Rattle.std.proofs.Common.{◌≤◌, length, ap, sym, ◌∙◌, arith}
use Rattle.exb_plan.specs.UseCounts.{padded, used_in}
use Rattle.exb_plan.proofs.UseRows.{padded_count, padded_length, used_count}
use Rattle.exb_plan.proofs.group_uses.SpaceUses.used.Goals as goal

pub returns : goal.returns
returns c =
    let row = c.self.inside.counts.items in
    let limit = c.self.inside.limit in
    let sized = padded_length limit row c.self.invariant.1 in
    let few : length (padded limit row) ≤ 12288 = let most = c.self.invariant.2 in omega (arith, sized, most) in
    c.self.invariant.0 ∙ sym (padded_count limit row) ∙ used_count (padded limit row) few ∙ ap used_in c.self.view_is
