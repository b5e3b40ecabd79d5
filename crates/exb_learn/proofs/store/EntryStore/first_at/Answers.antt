use Rattle.exb_learn.proofs.store.EntryStore.first_at.Goals as goal

pub returns-clause-some : goal.returns-clause-some
returns-clause-some c = rw (← c.self.view_is) (c.first_at.ensures.some c.self.inside.places.entries _ c.self.invariant.slotted)

pub returns-clause-none : goal.returns-clause-none
returns-clause-none c = rw (← c.self.view_is) (c.first_at.ensures.none c.self.inside.places.entries _ c.self.invariant.slotted)
