use Rattle.std.proofs.Common.{◌∙◌, sym}
use Rattle.exb_config.proofs.StaticEntryLists.{find_of, find_none}
use Rattle.exb_config.proofs.static_entries.StaticEntries.find.Goals as goal

pub returns-then-is_empty : goal.returns-then-is_empty
returns-then-is_empty c =
    rw (← c.self.view_is) (sym (find_none (record { vid = c.args.vid; address = c.args.address }) c.self.inside.entries.entries (c.is_empty.ensures.0 c.if-is_empty.true)))

pub returns : goal.returns
returns c =
    c.get.ensures.value
    ∙ rw (← c.self.view_is) (sym (find_of (record { vid = c.args.vid; address = c.args.address }) c.self.inside.entries.entries))
