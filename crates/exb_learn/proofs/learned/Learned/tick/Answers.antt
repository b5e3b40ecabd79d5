use Rattle.std.proofs.Common.{◌+◌, ap}
use Rattle.exb_learn.specs.Entries.{Entries}
use Rattle.exb_learn.proofs.LookupsAfterChange.{table-tick}
use Rattle.exb_learn.proofs.learned.Learned.tick.Goals as goal

pub returns-clause-table : goal.returns-clause-table
returns-clause-table c =
    let l : Entries = record { entries = c.self.inside.store.entries; clock = c.self.inside.clock; ageing = c.self.inside.ageing; spare = c.self.inside.store.room } in
    rw (← c.self.view_is) (table-tick l c.forget_dead.new.store.entries _ c.forget_dead.new.store.room c.args.seconds (ap (λ x. c.self.inside.clock + x) c.from.ensures) c.forget_dead.ensures.kept)
