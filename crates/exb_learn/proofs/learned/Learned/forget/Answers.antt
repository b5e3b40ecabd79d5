use Rattle.exb_learn.specs.Entries.{Entries}
use Rattle.exb_learn.proofs.LookupsAfterChange.{table-forget}
use Rattle.exb_learn.proofs.learned.Learned.forget.Goals as goal

pub returns-clause-table : goal.returns-clause-table
returns-clause-table c =
    let l : Entries = record { entries = c.self.inside.store.entries; clock = c.self.inside.clock; ageing = c.self.inside.ageing; spare = c.self.inside.store.room } in
    rw (← c.self.view_is) (table-forget l c.forget_port.new.store.entries c.forget_port.new.store.room c.args.port c.forget_port.ensures.kept)
