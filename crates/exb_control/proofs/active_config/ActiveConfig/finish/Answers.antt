use Rattle.exb_config.specs.Tables.{bridge_of}
use Rattle.exb_plan.proofs.WholePlans.{alike_has}
use Rattle.exb_control.specs.ActiveConfigs.{ActiveConfig, active_config_of}
use Rattle.exb_control.proofs.ActiveConfigInvariant.{ended, end_is}
use Rattle.exb_control.proofs.GroupUses.{ended_uses}
use Rattle.exb_control.proofs.active_config.ActiveConfig.finish.Goals as goal

pub invariant_of-self : goal.invariant_of-self
invariant_of-self c =
    let f : ActiveConfig = active_config_of c.self.inside.tree.value c.self.inside.channels c.self.inside.groups c.self.inside.config c.self.inside.spaces c.self.inside.stage in
    let force = rw (← c.self.view_is) at c.requires in
    let held = rw c.deref.ensures at c.free_numbers.ensures.held in
    let is = c.self.invariant.active in
    let effect = end_is f.stage force (bridge_of f.config) in
    record {
      active =
          ended f is f.config is.pvids effect c.free_numbers.new.spaces
          (alike_has f.shape f.limits f.spaces c.free_numbers.new.spaces c.free_numbers.ensures.alike is.spaces) held;
      uses = ended_uses f c.self.inside.uses c.self.invariant f.config effect c.free_numbers.new.spaces held;
    }
