use Rattle.std.proofs.Common.{◌∙◌, ap}
use Rattle.exb_config.specs.Rows.{statics_of}
use Rattle.exb_config.proofs.StaticEntryLists.{put_of}
use Rattle.exb_config.proofs.static_entries.StaticEntries.put.Goals as goal

pub returns-clause-ok : goal.returns-clause-ok
returns-clause-ok c =
    rw (← c.self.view_is) (ap statics_of c.in_ok-insert.ensures.entries ∙ put_of (record { vid = c.args.entry.vid; address = c.args.entry.address }) c.args.entry.ports c.self.inside.entries.entries)
