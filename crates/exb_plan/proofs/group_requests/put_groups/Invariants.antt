use Rattle.std.proofs.Common.{◌≡◌, ◌++◌, ℕ, take}
use Rattle.std.specs.List.{flat_map}
use Rattle.exb_model.specs.Tree.{by_depth}
use Rattle.exb_control_spec.specs.Plans.ChangeRequests.{asks_with}
use Rattle.exb_plan.specs.PlanValues.{rows_of_covered}
use Rattle.exb_plan.proofs.group_requests.put_groups.Given as goal

-- the extenders so far are asked
abbrev pub invariant-loop-extender : goal.invariant-loop-extender
invariant-loop-extender l =
    l.asks ≡ l.fn.asks ++ flat_map (λ (n : ℕ). asks_with l.step (rows_of_covered l.covered.items n) n) (take l.extender-index (by_depth l.tree))
