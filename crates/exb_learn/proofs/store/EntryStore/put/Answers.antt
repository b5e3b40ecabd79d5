use Rattle.std.proofs.Common.{sym, ◌∙◌}
use Rattle.exb_learn.proofs.StoreCalls.{changes_known}
use Rattle.exb_learn.proofs.store.EntryStore.put.Goals as goal

pub returns-in-Some : goal.returns-in-Some
returns-in-Some c = record { updates = changes_known c.args.station c.in-Some.known c.args.place c.args.self.now.entries (sym c.place.ensures ∙ c.in-Some.is) (sym c.eq.ensures ∙ c.if-eq.true) }
