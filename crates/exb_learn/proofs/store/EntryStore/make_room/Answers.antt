use Rattle.indexmap.specs.IndexMap.{spare}
use Rattle.exb_learn.proofs.StoreCalls.{stored_again, stored_more}
use Rattle.exb_learn.proofs.store.EntryStore.make_room.Goals as goal

pub invariant_of-self-in_err-reserve-2 : goal.invariant_of-self-in_err-reserve-2
invariant_of-self-in_err-reserve-2 c =
    stored_again c.self.inside.places.entries c.reserve.new.self.entries c.self.inside.room (spare c.self.inside.places) (spare c.reserve.new.self) c.self.inside.slots.ages c.self.inside.slots.ports
    c.reserve-2.new.self.ages c.reserve-2.new.self.ports c.self.invariant c.in_ok-reserve.ensures.entries c.in_ok-reserve.ensures.room.0 (c.reserve-2.ensures.kept c.self.inside.places.entries _ c.self.invariant.slotted)

pub invariant_of-self-2 : goal.invariant_of-self-2
invariant_of-self-2 c =
    stored_more c.self.inside.places.entries c.reserve.new.self.entries c.self.inside.room (spare c.self.inside.places) (spare c.reserve.new.self) c.capacity-slots.result c.len.result
    c.self.inside.slots.ages c.self.inside.slots.ports c.reserve-2.new.self.ages c.reserve-2.new.self.ports c.self.invariant c.in_ok-reserve.ensures.entries c.capacity-slots.ensures c.len.ensures.len
    (c.in_ok-reserve-2.ensures.ok c.self.inside.places.entries _ c.self.invariant.slotted)
