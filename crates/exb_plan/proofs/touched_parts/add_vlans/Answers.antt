use Rattle.std.proofs.Common.{sym}
use Rattle.exb_config.specs.Tables.{bridge_of}
use Rattle.exb_plan.proofs.PartLists.{adds_none, adds_same}
use Rattle.exb_plan.proofs.TouchedSources.{no_vlan}
use Rattle.exb_plan.proofs.touched_parts.add_vlans.Goals as goal

pub returns-in_default-clause-before : goal.returns-in_default-clause-before
returns-in_default-clause-before g c t here branches =
    let b = bridge_of c.args.config.now in
    let none = no_vlan b c.args.command.now c.in_default.not-Vlan c.in_default.not-Member c.in_default.not-Unmember c.in_default.not-Isolate
    c.in_default.not-Up c.in_default.not-Down in
    adds_same t b here _ _ c.args.parts.now.before.items c.args.parts.now.before.items (sym none) (adds_none t b here c.args.parts.now.before.items)

pub returns-in_default-clause-later : goal.returns-in_default-clause-later
returns-in_default-clause-later g c t here branches =
    let b = bridge_of c.args.config.now in
    let d = g.V.View.bridge c.args.view.now in
    let none = no_vlan b c.args.command.now c.in_default.not-Vlan c.in_default.not-Member c.in_default.not-Unmember c.in_default.not-Isolate
    c.in_default.not-Up c.in_default.not-Down in
    adds_same t d here _ _ c.args.parts.now.later.items c.args.parts.now.later.items (sym none) (adds_none t d here c.args.parts.now.later.items)
