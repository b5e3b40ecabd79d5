use Rattle.std.proofs.Common.{◌≡◌, ◌∙◌, ap, ℕ, ◌-◌, ◌≤◌, List, [], set, inl, inr, true, arith, refl, cond, ◌==◌}
use Rattle.std.specs.Prelude.{Some, slice_get}
use Rattle.exb_model.specs.declared.port_set.PortSet.{PortSet}
use Rattle.exb_model.specs.Ports.{ports_of}
use Rattle.exb_numbers.specs.Groups.{Groups, sets_of, set_of}
use Rattle.exb_numbers.specs.GroupOrder.{rank_of, ranks_at, is_held, StandsAt, IsLeft}
use Rattle.exb_numbers.proofs.GroupPlaces.{ports_at, ports_opt, get_set, get_set_other, ranks_is, place_in, no_ports}
use Rattle.exb_numbers.proofs.GroupTables.{used_means, read_set, released, set_changed}
use Rattle.exb_numbers.proofs.SetKeys.{none_key, set_keys}
use Rattle.exb_numbers.proofs.groups.Groups.release.Goals as goal

pub leave-requires-clause-there : goal.leave-requires-clause-there
leave-requires-clause-there c =
    let inside = c.self.inside in
    let used = used_means c.args.self.now c.args.group c.requires in
    let held : is_held (sets_of inside.sets.items) (c.args.group - 4096) ≡ true = ap (λ (v : Groups). is_held v.sets (c.args.group - 4096)) c.self.view_is ∙ used.1 in
    let at = read_set inside.sets.items (c.args.group - 4096) c.index.result.now held c.index.ensures in
    let s : StandsAt inside.order.items (c.args.group - 4096) = c.self.invariant.0.there (c.args.group - 4096) held in
    (s.index, s.within, rw c.as_slice.ensures.value (ap (ranks_at inside.sets.items) s.is ∙ ranks_is inside.sets.items (c.args.group - 4096) c.index.result.now at))

pub invariant_of-self : goal.invariant_of-self
invariant_of-self c =
    let inside = c.self.inside in
    let used = used_means c.args.self.now c.args.group c.requires in
    let held : is_held (sets_of inside.sets.items) (c.args.group - 4096) ≡ true = ap (λ (v : Groups). is_held v.sets (c.args.group - 4096)) c.self.view_is ∙ used.1 in
    let at = read_set inside.sets.items (c.args.group - 4096) c.index.result.now held c.index.ensures in
    let left : IsLeft (ranks_at inside.sets.items) inside.order.items (rank_of c.index.result.now) c.leave.new.order.items = rw (← c.as_slice.ensures.value) c.leave.ensures.order in
    let cap = c.self.invariant.1 in
    let order_cap = c.self.invariant.2 in
    let order_room = c.leave.ensures.room in (
      released inside.limit inside.sets.items inside.order.items inside.free (c.args.group - 4096) c.index.result.now c.empty.result c.leave.new.order.items (c.args.group - 4096) c.self.invariant.0 held at
          (no_ports c.empty.result c.empty.ensures) left (inl (c.if-place-self.true, refl)),
      cap,
      omega (arith, order_cap, order_room),
      c.self.invariant.3,
      set_keys inside.sets.items inside.keys.items (c.args.group - 4096) c.empty.result 0 c.self.invariant.4 (none_key c.empty.result c.empty.ensures),
    )

pub invariant_of-self-else-place-self : goal.invariant_of-self-else-place-self
invariant_of-self-else-place-self c =
    let inside = c.self.inside in
    let used = used_means c.args.self.now c.args.group c.requires in
    let held : is_held (sets_of inside.sets.items) (c.args.group - 4096) ≡ true = ap (λ (v : Groups). is_held v.sets (c.args.group - 4096)) c.self.view_is ∙ used.1 in
    let at = read_set inside.sets.items (c.args.group - 4096) c.index.result.now held c.index.ensures in
    let left : IsLeft (ranks_at inside.sets.items) inside.order.items (rank_of c.index.result.now) c.leave.new.order.items = rw (← c.as_slice.ensures.value) c.leave.ensures.order in
    let cap = c.self.invariant.1 in
    let order_cap = c.self.invariant.2 in
    let order_room = c.leave.ensures.room in (
      released inside.limit inside.sets.items inside.order.items inside.free (c.args.group - 4096) c.index.result.now c.empty.result c.leave.new.order.items inside.free c.self.invariant.0 held at
          (no_ports c.empty.result c.empty.ensures) left (inr (c.if-place-self.false, refl)),
      cap,
      omega (arith, order_cap, order_room),
      c.self.invariant.3,
      set_keys inside.sets.items inside.keys.items (c.args.group - 4096) c.empty.result 0 c.self.invariant.4 (none_key c.empty.result c.empty.ensures),
    )

-- the sets with an empty one at the group's place
emptied : (limit : ℕ) (sets : List PortSet) (g : ℕ) (s none : PortSet) → 4096 ≤ g → slice_get sets (g - 4096) ≡ Some s → ports_of none ≡ [] → (e : ℕ) →
    set_of (record { limit = limit; sets = sets_of (set sets (g - 4096) none) }) e ≡ cond (e == g) [] (set_of (record { limit = limit; sets = sets_of sets }) e)
emptied limit sets g s none low at empty e =
    let n_in = place_in sets (g - 4096) s at in
    set_changed limit sets (set sets (g - 4096) none) (g - 4096) []
    (ports_at (set sets (g - 4096) none) (g - 4096) ∙ ap ports_opt (get_set sets (g - 4096) none n_in) ∙ empty)
    (λ k other. get_set_other sets (g - 4096) k none other) e
    ∙ ap (λ (x : ℕ). cond (e == x) [] (set_of (record { limit = limit; sets = sets_of sets }) e)) (omega arith)

pub returns-then-place-self-clause-sets : goal.returns-then-place-self-clause-sets
returns-then-place-self-clause-sets c e =
    let inside = c.self.inside in
    let used = used_means c.args.self.now c.args.group c.requires in
    let held : is_held (sets_of inside.sets.items) (c.args.group - 4096) ≡ true = ap (λ (v : Groups). is_held v.sets (c.args.group - 4096)) c.self.view_is ∙ used.1 in
    let at = read_set inside.sets.items (c.args.group - 4096) c.index.result.now held c.index.ensures in
    rw (← c.self.view_is) (emptied inside.limit inside.sets.items c.args.group c.index.result.now c.empty.result used.0 at (no_ports c.empty.result c.empty.ensures) e)

pub returns-else-place-self-clause-sets : goal.returns-else-place-self-clause-sets
returns-else-place-self-clause-sets c e =
    let inside = c.self.inside in
    let used = used_means c.args.self.now c.args.group c.requires in
    let held : is_held (sets_of inside.sets.items) (c.args.group - 4096) ≡ true = ap (λ (v : Groups). is_held v.sets (c.args.group - 4096)) c.self.view_is ∙ used.1 in
    let at = read_set inside.sets.items (c.args.group - 4096) c.index.result.now held c.index.ensures in
    rw (← c.self.view_is) (emptied inside.limit inside.sets.items c.args.group c.index.result.now c.empty.result used.0 at (no_ports c.empty.result c.empty.ensures) e)
