use Rattle.std.proofs.Common.{◌≡◌, map, take}
use Rattle.exb_control_spec.specs.Plans.Plans.{number_of}
use Rattle.exb_control_spec.specs.Plans.FreshSets.{seen_group}
use Rattle.exb_plan.proofs.change.numbers_of.Given as goal

-- the numbers so far
abbrev pub invariant-loop-group : goal.invariant-loop-group
invariant-loop-group l = l.numbers ≡ map number_of (map seen_group (take l.group-index l.groups))
