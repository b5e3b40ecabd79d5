use Rattle.std.proofs.Common.{◌≡◌, ◌∙◌, sym, get_or}
use Rattle.std.proofs.lemmas.Grind.{get_or_default_zero}
use Rattle.exb_numbers.specs.GroupOrder.{rank_of, ranks_at, IsAt, SplitsAt}
use Rattle.exb_numbers.proofs.GroupPlaces.{group_at, group_absent}
use Rattle.exb_numbers.proofs.groups.Groups.find.Goals as goal

pub returns-in-Ok-clause-value : goal.returns-in-Ok-clause-value
returns-in-Ok-clause-value c =
    let inside = c.self.inside in
    let at : IsAt (ranks_at inside.sets.items) inside.order.items (rank_of c.args.set.now) c.in-Ok.index = rw (← c.as_slice.ensures.value, ← c.as_slice-2.ensures.value) c.in-Ok.ensures in
    let read : c.index.result.now ≡ get_or inside.order.items c.in-Ok.index 0 = c.index.ensures ∙ get_or_default_zero inside.order.items c.in-Ok.index c.index.result.now at.within in
    rw (← c.self.view_is, read) (sym (group_at inside.limit inside.sets.items inside.order.items inside.free c.self.invariant.0 c.args.set.now c.in-Ok.index at))

pub returns-in-Err-clause-value : goal.returns-in-Err-clause-value
returns-in-Err-clause-value c =
    let inside = c.self.inside in
    let splits : SplitsAt (ranks_at inside.sets.items) inside.order.items (rank_of c.args.set.now) c.in-Err.field-0 = rw (← c.as_slice.ensures.value, ← c.as_slice-2.ensures.value) c.in-Err.ensures in
    rw (← c.self.view_is) (sym (group_absent inside.limit inside.sets.items inside.order.items inside.free c.self.invariant.0 c.args.set.now c.in-Err.field-0 splits))
