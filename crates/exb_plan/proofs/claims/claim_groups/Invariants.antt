use Rattle.std.proofs.Common.{◌≡◌, ◌≤◌, ℕ, map, drop, length}
use Rattle.std.specs.Prelude.{vec_capacity}
use Rattle.exb_control_spec.specs.Plans.Sets.{seen}
use Rattle.exb_plan.specs.SpaceContents.{held_by}
use Rattle.exb_control_spec.specs.Plans.FreshSets.{seen_group}
use Rattle.exb_plan.specs.PlanValues.{AreLimited, IsAlike}
use Rattle.exb_plan.proofs.ClaimLoop.{IsClaiming}
use Rattle.exb_plan.proofs.claims.claim_groups.Given as goal

-- what was claimed, and what claiming the rest leads to, are all
abbrev pub invariant-loop-set : goal.invariant-loop-set
invariant-loop-set l = record {
  alike : IsAlike l.fn.spaces l.spaces;
  count : length l.given.items ≡ l.set-index;
  room : length l.sets ≤ vec_capacity l.given;
  claims : (groups : ℕ) → AreLimited groups l.fn.spaces →
      IsClaiming groups (held_by l.fn.spaces) (map seen l.sets) l.spaces (map seen (drop l.set-index l.sets)) (map seen_group l.given.items);
}
