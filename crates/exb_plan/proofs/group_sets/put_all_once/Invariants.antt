use Rattle.std.proofs.Common.{◌≡◌, map, fold, take}
use Rattle.exb_control_spec.specs.Plans.Sets.{with_set_at, seen}
use Rattle.exb_plan.proofs.group_sets.put_all_once.Given as goal

-- those of the sets so far
abbrev pub invariant-loop-place : goal.invariant-loop-place
invariant-loop-place l = map seen l.sets.keys ≡ fold with_set_at (map seen l.fn.sets.keys) (map seen (take l.place l.more))
