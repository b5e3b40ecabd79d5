use Rattle.std.proofs.Common.{◌≤◌, ◌+◌, length, sym, subst, Some}
use Rattle.indexmap.specs.IndexMap.{spare}
use Rattle.exb_learn.specs.EntryRings.{Stored}
use Rattle.exb_learn.specs.Stations.{Changes, IsUntil}
use Rattle.exb_learn.proofs.StoreCalls.{putting, stored_put, changes_put, room_put}
use Rattle.exb_learn.proofs.store.EntryStore.put_anew.Goals as goal

pub put-requires : goal.put-requires
put-requires c =
    let es = c.self.inside.places.entries in (
      es,
      (
        c.args.station,
        (
          length es + c.self.inside.room,
          putting es c.args.station c.self.inside.room (spare c.self.inside.places) c.self.inside.slots.ages c.self.inside.slots.ports c.put_place-slot.result.0 c.put_place-slot.result.1 c.args.place c.self.invariant
              (subst (λ (x : Stored). 1 ≤ x.room) (sym c.self.view_is) c.requires.room) (subst (λ (x : Stored). IsUntil c.args.place.at x.entries) (sym c.self.view_is) c.requires.latest)
              c.put_place-slot.ensures.slot c.put_place-slot.ensures.known,
        ),
      ),
    )

pub invariant_of-self : goal.invariant_of-self
invariant_of-self c =
    let es = c.self.inside.places.entries in
    let some : 1 ≤ c.self.inside.room = subst (λ (x : Stored). 1 ≤ x.room) (sym c.self.view_is) c.requires.room in
    stored_put es c.put_place-slot.new.places.entries c.args.station c.self.inside.room (spare c.self.inside.places) _ (spare c.put_place-slot.new.places) c.self.inside.slots.ages c.self.inside.slots.ports
    c.put.new.self.ages c.put.new.self.ports c.put_place-slot.result.1 c.args.place c.self.invariant c.put_place-slot.ensures.entries c.put_place-slot.ensures.known c.put_place-slot.ensures.unique
    (room_put c.put_place-slot.result.1 c.self.inside.room c.len-held.result c.len.result (length es) (length c.put_place-slot.new.places.entries) some c.len-held.ensures.len c.len.ensures.len c.put_place-slot.ensures.len)
    c.put_place-slot.ensures.spare
    (c.put.ensures es c.args.station (length es + c.self.inside.room)
    (putting es c.args.station c.self.inside.room (spare c.self.inside.places) c.self.inside.slots.ages c.self.inside.slots.ports c.put_place-slot.result.0 c.put_place-slot.result.1 c.args.place c.self.invariant
    some (subst (λ (x : Stored). IsUntil c.args.place.at x.entries) (sym c.self.view_is) c.requires.latest) c.put_place-slot.ensures.slot c.put_place-slot.ensures.known))

pub returns : goal.returns
returns c =
    let es = c.self.inside.places.entries in
    record {
      updates = rw (← c.self.view_is) (subst (λ xs. Changes es xs c.args.station (Some c.args.place)) (sym c.put_place-slot.ensures.entries) (changes_put c.args.station c.args.place es));
    }
