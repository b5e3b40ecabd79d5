use Rattle.std.proofs.Common.{◌≡◌, ℕ, take, map}
use Rattle.exb_control_spec.specs.Plans.ChangeRequests.{rows_at}
use Rattle.exb_control_spec.specs.Plans.FreshSets.{seen_group}
use Rattle.exb_plan.specs.PlanValues.{rows_of_covered}
use Rattle.exb_plan.proofs.group_requests.cover_all.Given as goal

-- the groups so far have the same rows
abbrev pub invariant-loop-group : goal.invariant-loop-group
invariant-loop-group l = (n : ℕ) → rows_of_covered l.covered.items n ≡ rows_at l.tree (map seen_group (take l.group-index l.groups)) n
