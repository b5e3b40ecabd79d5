use Rattle.exb_audit.specs.Rule3Links.{before_in}
use Rattle.exb_audit.proofs.Rule3Links.{noted_new}
use Rattle.std.proofs.lemmas.Map.Text.{btree_map_updates_str}
use Rattle.std.specs.Prelude.{Some}
use Rattle.std.proofs.Common.{sym, ◌∙◌}
use Rattle.exb_audit.proofs.rule3_links.note.Goals as goal

pub returns : goal.returns
returns c =
    noted_new (before_in c.args.before.now) (before_in c.insert.new.self) c.args.frame.now c.args.count (sym c.contains_key.ensures ∙ c.if-contains_key.false)
    (btree_map_updates_str c.args.frame.now c.args.before.now c.insert.new.self (Some c.args.count) c.in_ok-insert.ensures.updates)
