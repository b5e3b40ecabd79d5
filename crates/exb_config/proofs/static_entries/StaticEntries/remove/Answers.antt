use Rattle.std.proofs.Common.{◌∙◌, sym, ap}
use Rattle.exb_config.specs.Rows.{statics_of}
use Rattle.exb_config.proofs.StaticEntryLists.{removed_of, absent_of}
use Rattle.exb_config.proofs.static_entries.StaticEntries.remove.Goals as goal

pub returns-in-Some : goal.returns-in-Some
returns-in-Some c =
    rw (← c.self.view_is) (ap statics_of c.shift_remove_index.ensures.entries ∙ removed_of (record { vid = c.args.vid; address = c.args.address }) c.self.inside.entries.entries c.in-Some.place c.in-Some.ensures.unique (sym c.in-Some.ensures.index))

pub returns-in_default : goal.returns-in_default
returns-in_default c =
    rw (← c.self.view_is) (absent_of (record { vid = c.args.vid; address = c.args.address }) c.self.inside.entries.entries (sym c.get_index_of.ensures.index ∙ c.in_default.is))
