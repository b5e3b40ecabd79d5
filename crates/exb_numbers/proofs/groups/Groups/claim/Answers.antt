use Rattle.std.proofs.Common.{◌∙◌, sym, ap, subst, List, map, arith}
use Rattle.exb_model.specs.declared.port_set.PortSet.{PortSet}
use Rattle.exb_model.specs.Ports.{ports_of}
use Rattle.exb_numbers.specs.Groups.{Groups, group_of}
use Rattle.exb_numbers.specs.GroupOrder.{key_of, put_key_at, rank_of, ranks_at, put_at, IsAt, IsEntered}
use Rattle.exb_numbers.proofs.ChannelTables.{none_some}
use Rattle.exb_numbers.proofs.GroupPlaces.{group_at, ports_at, ports_opt, get_put, get_put_other}
use Rattle.exb_numbers.proofs.GroupTables.{lowest_at, lowest_full, has_room, claimed, set_changed, IsNext}
use Rattle.exb_numbers.proofs.SetKeys.{put_keys}
use Rattle.exb_numbers.proofs.groups.Groups.claim.Goals as goal

pub returns-then-place-self-clause-lowest : goal.returns-then-place-self-clause-lowest
returns-then-place-self-clause-lowest c =
    let inside = c.self.inside in
    rw (← c.self.view_is) (lowest_full inside.limit inside.sets.items inside.order.items inside.free c.self.invariant.0 c.if-place-self.true)

pub returns-clause-lowest : goal.returns-clause-lowest
returns-clause-lowest c =
    let inside = c.self.inside in
    rw (← c.self.view_is) (lowest_at inside.limit inside.sets.items inside.order.items inside.free c.self.invariant.0 (omega arith))

pub enter-requires-clause-absent : goal.enter-requires-clause-absent
enter-requires-clause-absent c k within same =
    let inside = c.self.inside in
    let at : IsAt (ranks_at inside.sets.items) inside.order.items (rank_of c.args.set.now) k = record { within = within; same = rw (← c.as_slice.ensures.value) same } in
    let has = group_at inside.limit inside.sets.items inside.order.items inside.free c.self.invariant.0 c.args.set.now k at in
    let absent = c.requires.absent in
    none_some _ (sym absent ∙ ap (λ (v : Groups). group_of v (ports_of c.args.set.now)) (sym c.self.view_is) ∙ has)

pub enter-requires-clause-room : goal.enter-requires-clause-room
enter-requires-clause-room c =
    let inside = c.self.inside in
    let room = has_room inside.limit inside.sets.items inside.order.items inside.free c.args.set.now c.self.invariant.0 (omega arith) c.requires.some in
    let cap = c.self.invariant.2 in
    omega (arith, room, cap)

pub invariant_of-self : goal.invariant_of-self
invariant_of-self c =
    let inside = c.self.inside in
    let n = c.next_free-self-inside.ensures in
    let entered : IsEntered (ranks_at inside.sets.items) inside.order.items (rank_of c.args.set.now) inside.free c.enter.new.order.items = rw (← c.as_slice.ensures.value) c.enter.ensures.order in
    let next : IsNext (put_at inside.sets.items inside.free c.args.set.now) inside.free c.next_free-self-inside.result =
    let P : List PortSet → Type 0 = λ sets. IsNext sets inside.free c.next_free-self-inside.result in
    subst P (c.as_slice-3.ensures.value ∙ c.put_set.ensures.items) (record { low = n.low; high = n.high; passed = n.passed; free = n.free }) in
    let cap = c.self.invariant.1 in
    let order_cap = c.self.invariant.2 in
    let key_cap = c.self.invariant.3 in
    let key_room = c.put_key.ensures.room in
    let room = c.put_set.ensures.room in
    let order_room = c.enter.ensures.room in (
      rw c.put_set.ensures.items (claimed inside.limit inside.sets.items inside.order.items inside.free c.args.set.now c.enter.new.order.items c.next_free-self-inside.result c.self.invariant.0 (omega arith) c.requires.some entered next),
      omega (arith, cap, room),
      omega (arith, order_cap, order_room),
      omega (arith, key_cap, key_room),
      c.put_key.ensures.items ∙ ap (put_key_at inside.keys.items inside.free) c.key_of-key.ensures ∙ put_keys inside.sets.items inside.keys.items inside.free c.args.set.now c.self.invariant.4
          ∙ ap (map (λ (s : PortSet). key_of s.words)) (sym c.put_set.ensures.items),
    )

pub next_free-self-inside-requires-clause-keys : goal.next_free-self-inside-requires-clause-keys
next_free-self-inside-requires-clause-keys c =
    let inside = c.self.inside in
    c.as_slice-2.ensures.value ∙ c.put_key.ensures.items ∙ ap (put_key_at inside.keys.items inside.free) c.key_of-key.ensures
    ∙ put_keys inside.sets.items inside.keys.items inside.free c.args.set.now c.self.invariant.4
    ∙ ap (map (λ (s : PortSet). key_of s.words)) (sym (c.as_slice-3.ensures.value ∙ c.put_set.ensures.items))

pub returns-clause-sets : goal.returns-clause-sets
returns-clause-sets c e =
    let inside = c.self.inside in
    let high = c.self.invariant.0.high in
    rw (← c.self.view_is, c.put_set.ensures.items)
    (set_changed inside.limit inside.sets.items (put_at inside.sets.items inside.free c.args.set.now) inside.free (ports_of c.args.set.now)
    (ports_at (put_at inside.sets.items inside.free c.args.set.now) inside.free ∙ ap ports_opt (get_put inside.sets.items inside.free c.args.set.now high))
    (λ k other. get_put_other inside.sets.items inside.free k c.args.set.now high other) e)
