use Rattle.std.proofs.Common.{◌≡◌, filter, map, not, take}
use Rattle.exb_control_spec.specs.Plans.Sets.{seen}
use Rattle.exb_plan.specs.SpaceContents.{held_by}
use Rattle.exb_control_spec.specs.Plans.FreshSets.{has_group}
use Rattle.exb_plan.proofs.touched_sets.without_group.Given as goal

-- those of the parts so far
abbrev pub invariant-loop-part : goal.invariant-loop-part
invariant-loop-part l = map seen l.fresh.items ≡ filter (λ s. not (has_group (held_by l.spaces) s)) (map seen (take l.part-index l.parts))
