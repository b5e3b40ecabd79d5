use Rattle.exb_learn.proofs.store.EntryStore.oldest.Goals as goal

pub returns-clause-some : goal.returns-clause-some
returns-clause-some c = rw (← c.self.view_is) (c.oldest.ensures.some c.self.inside.places.entries _ c.self.invariant.slotted)

pub returns-clause-none : goal.returns-clause-none
returns-clause-none c = rw (← c.self.view_is) (c.oldest.ensures.none c.self.inside.places.entries _ c.self.invariant.slotted)
