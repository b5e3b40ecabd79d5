use Rattle.exb_learn.specs.Entries.{Entries}
use Rattle.exb_learn.proofs.LookupsAfterChange.{has_live}
use Rattle.exb_learn.proofs.learned.Learned.held.Goals as goal

pub returns : goal.returns
returns c =
    let l : Entries = record { entries = c.self.inside.store.entries; clock = c.self.inside.clock; ageing = c.self.inside.ageing; spare = c.self.inside.store.room } in
    rw (← c.self.view_is) (has_live l _ c.len.ensures.once c.len.ensures.len)
