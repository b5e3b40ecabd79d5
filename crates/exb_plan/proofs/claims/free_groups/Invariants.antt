use Rattle.std.proofs.Common.{map}
use Rattle.std.specs.Prelude.{vec_len}
use Rattle.exb_control_spec.specs.Plans.HeldNumbers.{Held}
use Rattle.exb_plan.specs.SpaceContents.{held_by}
use Rattle.exb_control_spec.specs.Plans.FreshSets.{seen_group}
use Rattle.exb_plan.specs.PlanValues.{IsLaterBy, IsAlike}
use Rattle.exb_plan.proofs.claims.free_groups.Given as goal

-- what is held came of what was held by the groups that are left
abbrev pub invariant-loop-group : goal.invariant-loop-group
invariant-loop-group l = record {
  alike : IsAlike l.fn.spaces l.spaces;
  later : (h : Held) → IsLaterBy l.fn.spaces h (map seen_group l.fn.given.items) (held_by l.fn.spaces) → IsLaterBy l.fn.spaces h (map seen_group l.given.items) (held_by l.spaces);
}

abbrev pub decreases-loop-group : goal.decreases-loop-group
decreases-loop-group l = vec_len l.given
