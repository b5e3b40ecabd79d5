use Rattle.std.proofs.Common.{◌≡◌, take}
use Rattle.exb_plan.specs.PlanValues.{rows_of_covered}
use Rattle.exb_plan.proofs.group_requests.rows_at.Given as goal

-- the rows of the groups so far
abbrev pub invariant-loop-group : goal.invariant-loop-group
invariant-loop-group l = l.rows.items ≡ rows_of_covered (take l.group-index l.covered) l.extender
