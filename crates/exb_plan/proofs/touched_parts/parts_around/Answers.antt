use Rattle.exb_config.specs.Tables.{bridge_of}
use Rattle.exb_control_spec.specs.Plans.TouchedParts.{touches_below}
use Rattle.exb_plan.proofs.TouchedParts.{before_is, after_is}
use Rattle.exb_plan.proofs.touched_parts.parts_around.Goals as goal

pub returns-clause-before : goal.returns-clause-before
returns-clause-before c =
    let t = c.args.tree.now in
    before_is t c.args.command.now (bridge_of c.args.config.now) c.in_ok-before.before.items c.add_before.new.parts.items c.in_ok-before.ensures.items
    (c.in_ok-add_before.ensures t (touches_below t c.args.command.now) c.touched-branches.ensures c.in_ok-before.before.items (c.in_ok-add_vlans.ensures.before t (touches_below t c.args.command.now) c.touched-branches.ensures))

pub returns-clause-later : goal.returns-clause-later
returns-clause-later c =
    let t = c.args.tree.now in
    after_is t c.args.command.now (bridge_of c.args.config.now) c.in_ok-later.later.items c.add_after.new.parts.items c.in_ok-later.ensures.items
    (c.in_ok-add_after.ensures t (touches_below t c.args.command.now) c.touched-branches_later.ensures c.in_ok-later.later.items (c.in_ok-add_vlans.ensures.later t (touches_below t c.args.command.now) c.touched-branches_later.ensures))
