use Rattle.std.proofs.Common.{sym}
use Rattle.exb_config.specs.Tables.{bridge_of}
use Rattle.exb_plan.proofs.PartLists.{adds_none, adds_same}
use Rattle.exb_plan.proofs.TouchedSources.{no_entry}
use Rattle.exb_plan.proofs.touched_parts.add_touched.Goals as goal

pub returns-in_default : goal.returns-in_default
returns-in_default g c t here branches =
    let b = bridge_of c.args.config.now in
    let d = g.V.View.bridge c.args.view.now in
    let none = no_entry b c.args.entry.now c.args.command.now c.in_default.not-Vlan c.in_default.not-Member c.in_default.not-Unmember c.in_default.not-Unstatic c.in_default.not-Isolate
    c.in_default.not-Up c.in_default.not-Down in
    adds_same t d here _ _ c.args.parts.now.items c.args.parts.now.items (sym none) (adds_none t d here c.args.parts.now.items)
