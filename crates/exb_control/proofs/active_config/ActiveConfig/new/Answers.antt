use Rattle.std.proofs.Common.{◌∙◌}
use Rattle.exb_config.specs.Tables.{bridge_of}
use Rattle.exb_plan.specs.SpaceContents.{held_by}
use Rattle.exb_control.proofs.ActiveConfigInvariant.{new_active}
use Rattle.exb_control.proofs.GroupUses.{counted_placed, first_counted}
use Rattle.exb_control.proofs.active_config.ActiveConfig.new.Goals as goal

pub invariant_of-result : goal.invariant_of-result
invariant_of-result c =
    let has = rw c.deref-2.ensures at c.in_ok-spaces.ensures.spaces in
    let first = rw c.deref-2.ensures at c.in_ok-spaces.ensures.first in
    let shape = c.in_ok-tree.ensures ∙ c.in_ok-new.ensures in
    let rows = rw c.deref.ensures at c.in_ok-uses.ensures.rows in
    record {
      active =
          new_active c.args.setup.now c.requires c.in_ok-tree.tree.value shape c.in_ok-config.config c.in_ok-spaces.spaces
          c.in_ok-config.ensures.config c.in_ok-config.ensures.pvids has first;
      uses = record {
        counted =
            counted_placed c.in_ok-tree.tree.value (bridge_of c.in_ok-config.config) (held_by c.in_ok-spaces.spaces) c.in_ok-uses.uses
            (first_counted c.in_ok-tree.tree.value (bridge_of c.in_ok-config.config) (held_by c.in_ok-spaces.spaces) c.in_ok-uses.uses c.in_ok-uses.ensures.zero first.groups);
        rows = rows;
      };
    }
