use Rattle.std.proofs.Common.{◌≡◌, ◌∙◌, ℕ, List, ap, sym, subst}
use Rattle.exb_model.specs.Tree.{Shape}
use Rattle.exb_config.specs.Tables.{bridge_of}
use Rattle.exb_plan.proofs.WholePlans.{alike_has}
use Rattle.exb_control.specs.declared.stage.Stage.TheVariants.{AtRest}
use Rattle.exb_plan.specs.SpaceContents.{held_by}
use Rattle.exb_control.specs.ActiveConfigs.{ActiveConfig, active_config_of, held_at_end}
use Rattle.exb_control_spec.specs.Plans.HeldNumbers.{in_spaces}
use Rattle.exb_control.specs.GroupUses.{AreUses, IsKept}
use Rattle.exb_control.proofs.ActiveConfigInvariant.{ended}
use Rattle.exb_control.proofs.GroupUses.{ended_uses}
use Rattle.exb_control.proofs.active_config.ActiveConfig.copy_at_rest.Goals as goal

pub invariant_of-result : goal.invariant_of-result
invariant_of-result c =
    let f : ActiveConfig = active_config_of c.self.inside.tree.value c.self.inside.channels c.self.inside.groups c.self.inside.config c.self.inside.spaces c.self.inside.stage in
    let same : c.in_ok-tree.tree.value ≡ f.shape = c.in_ok-tree.ensures.cases in
    let has = rw c.deref.ensures at c.in_ok-spaces.ensures.spaces in
    let copied = rw c.deref.ensures at c.in_ok-spaces.ensures.held in
    let held = rw c.deref-2.ensures at c.free_numbers.ensures.held in
    let is = c.self.invariant.active in
    let effect = c.in_ok-config.ensures.config in
    let kept = held ∙ ap (held_at_end f.stage) copied in
    subst (λ (t : Shape). IsKept (active_config_of t f.limits.channels f.limits.groups c.in_ok-config.config c.free_numbers.new.spaces AtRest) c.in_ok-uses.uses) (sym same)
    (record {
      active =
          ended f is c.in_ok-config.config c.in_ok-config.ensures.pvids effect
          c.free_numbers.new.spaces (alike_has f.shape f.limits c.in_ok-spaces.spaces c.free_numbers.new.spaces c.free_numbers.ensures.alike has) kept;
      uses =
          subst (λ (u : List (List ℕ)). AreUses f.shape f.limits (bridge_of c.in_ok-config.config) (in_spaces f.shape (held_by c.free_numbers.new.spaces)) u) (sym c.in_ok-uses.ensures)
          (ended_uses f c.self.inside.uses c.self.invariant c.in_ok-config.config effect c.free_numbers.new.spaces kept);
    })
