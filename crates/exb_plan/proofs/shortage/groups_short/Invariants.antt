use Rattle.std.proofs.Common.{◌≡◌, ◌+◌, ◌<◌, ◌-◌, ℕ, true, false, List, map}
use Rattle.exb_model.specs.Setup.{Limits}
use Rattle.exb_model.specs.Tree.{is_cascade}
use Rattle.exb_control_spec.specs.Plans.Sets.{PortsAt, seen}
use Rattle.exb_plan.specs.PlanValues.{AreLimited}
use Rattle.exb_control_spec.specs.Plans.FreshSets.{how_many, is_at, is_short}
use Rattle.exb_plan.specs.UseCounts.{used_at}
use Rattle.exb_plan.proofs.shortage.groups_short.Given as goal

-- no bridge port so far is short of groups
abbrev pub invariant-loop-bridge_port : goal.invariant-loop-bridge_port
invariant-loop-bridge_port l =
    (limits : Limits) → (had : List PortsAt) → AreLimited limits.groups l.spaces →
    ((k : ℕ) → k < 64 → is_cascade l.tree k ≡ true → used_at l.uses k ≡ how_many (is_at (k + 1)) had) →
    (k : ℕ) → k < l.bridge_port - 1 → is_short l.tree limits had (map seen l.fresh) k ≡ false
