use Rattle.std.proofs.Common.{◌≡◌, ◌++◌, ◌-◌, map, take}
use Rattle.exb_plan.specs.SpaceContents.{held_by}
use Rattle.exb_control_spec.specs.Plans.Differences.{group_at}
use Rattle.exb_control_spec.specs.Plans.FreshSets.{seen_group}
use Rattle.exb_plan.proofs.lost_uses.put_groups.Given as goal

-- those of the numbers so far
abbrev pub invariant-loop-number : goal.invariant-loop-number
invariant-loop-number l =
    map seen_group l.gone.items ≡ map seen_group l.fn.gone.items ++ map (group_at (held_by l.spaces) (l.bridge_port - 1)) (take l.number-index l.numbers)
