use Rattle.std.proofs.Common.{◌≡◌, ◌∙◌, ℕ, ◌+◌, ◌-◌, get_or, ap, arith}
use Rattle.std.specs.Prelude.{Some}
use Rattle.std.proofs.lemmas.Grind.{get_or_default_zero}
use Rattle.exb_numbers.proofs.GroupPlaces.{get_at, group_known}
use Rattle.exb_numbers.proofs.SetKeys.{as_long, held_by_key}
use Rattle.exb_numbers.proofs.groups.Groups.is_of.Goals as goal

pub returns-clause-group : goal.returns-clause-group
returns-clause-group c same =
    let inside = c.self.inside in
    let n = c.args.group - 4096 in
    let own = c.index-2.result.now in
    let have = c.self.invariant.4 in
    let long = as_long inside.sets.items inside.keys.items have in
    let count = c.len.ensures in
    let below = c.if-place-len.false in
    let low = c.if-group-lt-FIRST.false in
    let at = get_at inside.sets.items n own (omega (arith, long, count, below)) c.index-2.ensures in
    let key : c.index.result.now ≡ get_or inside.keys.items n 0 = c.index.ensures ∙ get_or_default_zero inside.keys.items n c.index.result.now (omega (arith, count, below)) in
    let held = held_by_key inside.sets.items inside.keys.items n have (λ none. c.if-index-eq0.false (key ∙ none)) in
    let group : 4096 + n ≡ c.args.group = omega (arith, low) in
    rw (← c.self.view_is) (group_known inside.limit inside.sets.items inside.order.items inside.free c.self.invariant.0 c.args.set.now own n held at (c.are_same.ensures same) ∙ ap (λ (g : ℕ). Some g) group)
