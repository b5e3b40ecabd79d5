use Rattle.std.proofs.Common.{refl, arith}
use Rattle.std.proofs.lemmas.Bool.{lt-ltb, le-ltb}
use Rattle.exb_learn.specs.declared.key.StationKey.{StationKey}
use Rattle.exb_learn.specs.declared.entries.DynamicEntry.{DynamicEntry}
use Rattle.exb_learn.specs.Entries.{Entries}
use Rattle.exb_learn.proofs.Lookups.{until_put}
use Rattle.exb_learn.proofs.LookupsAfterChange.{table-see, table-unseen}
use Rattle.exb_learn.proofs.learned.Learned.see.Goals as goal

pub returns-then-self-gt0-clause-table : goal.returns-then-self-gt0-clause-table
returns-then-self-gt0-clause-table c =
    let l : Entries = record { entries = c.self.inside.store.entries; clock = c.self.inside.clock; ageing = c.self.inside.ageing; spare = c.self.inside.store.room } in
    let s : StationKey = record { vid = c.args.vid; address = c.args.address } in
    let p : DynamicEntry = record { port = c.args.port; at = c.self.inside.clock } in
    rw (← c.self.view_is) (table-see l c.put.new.self.entries c.put.new.self.room s p (lt-ltb 0 c.self.inside.ageing (omega arith)) refl c.put.ensures.updates)

pub returns-else-self-gt0-clause-table : goal.returns-else-self-gt0-clause-table
returns-else-self-gt0-clause-table c =
    let l : Entries = record { entries = c.self.inside.store.entries; clock = c.self.inside.clock; ageing = c.self.inside.ageing; spare = c.self.inside.store.room } in
    rw (← c.self.view_is) (table-unseen l c.args.vid c.args.address.0 c.args.port (le-ltb 0 c.self.inside.ageing (omega arith)))

pub invariant_of-self : goal.invariant_of-self
invariant_of-self c =
    let s : StationKey = record { vid = c.args.vid; address = c.args.address } in
    let p : DynamicEntry = record { port = c.args.port; at = c.self.inside.clock } in
    until_put c.self.inside.clock s p c.self.inside.store.entries c.put.new.self.entries c.self.invariant (omega arith) c.put.ensures.updates
