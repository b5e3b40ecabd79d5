-- The parts that a command touches, and the sets that come with it.
use Rattle.std.specs.Prelude.{◌≡◌, not, filter, map}
use Rattle.exb_model.specs.declared.command.Command.{Command}
use Rattle.exb_model.specs.Tree.{Shape}
use Rattle.exb_model.specs.Configuration.{Bridge, after}
use Rattle.exb_plan.specs.Parts.{has_ports}
use Rattle.exb_control_spec.specs.Plans.Sets.{seen}
use Rattle.exb_control_spec.specs.Plans.HeldNumbers.{Held}
use Rattle.exb_control_spec.specs.Plans.Differences.{fresh_sets}
use Rattle.exb_control_spec.specs.Plans.FreshSets.{has_group}
use Rattle.exb_control_spec.specs.Plans.TouchedParts.{parts_before, parts_after}
use Rattle.exb_plan.specs.declared.touched_sets.TouchedSets.{TouchedSets}

-- the parts with a port before the command and after it, those of the latter without a group, and the sets that the
-- configuration before the command doesn't have
pub record AreTouched (t : Shape) (c : Command) (b : Bridge) (h : Held) (x : TouchedSets) : Type 0 where
  pub before : map seen x.before.items ≡ filter has_ports (parts_before t c b)
  pub later : map seen x.later.items ≡ filter has_ports (parts_after t c b)
  pub unfound : map seen x.unfound.items ≡ filter (λ s. not (has_group h s)) (map seen x.later.items)
  pub fresh : map seen x.fresh.items ≡ fresh_sets t b (after c b)
