use Rattle.std.proofs.Common.{◌∙◌, ap}
use Rattle.exb_control.specs.ActiveConfigs.{ActiveConfig, active_config_of, in_force}
use Rattle.exb_control.proofs.ActiveConfigInvariant.{committed}
use Rattle.exb_control.proofs.GroupUses.{committed_uses}
use Rattle.exb_control.proofs.active_config.ActiveConfig.commit.Goals as goal

pub invariant_of-self-2 : goal.invariant_of-self-2
invariant_of-self-2 c =
    let f : ActiveConfig = active_config_of c.self.inside.tree.value c.self.inside.channels c.self.inside.groups c.self.inside.config c.self.inside.spaces c.self.inside.stage in
    let is = c.self.invariant.active in
    let p = rw (← c.self.view_is) at c.requires in
    let effect = c.in_ok-take_effect.ensures.config in
    let now = c.in_force.ensures ∙ ap in_force c.replace.ensures.value in
    record {
      active = committed f is c.take_effect.new.config c.take_effect.ensures.pvids effect p c.in_force.result now;
      uses = committed_uses f c.self.inside.uses c.self.invariant c.take_effect.new.config effect p c.in_force.result now;
    }
