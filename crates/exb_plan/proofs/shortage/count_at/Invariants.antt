use Rattle.std.proofs.Common.{◌≡◌, ◌≤◌, map, take}
use Rattle.exb_control_spec.specs.Plans.Sets.{seen}
use Rattle.exb_control_spec.specs.Plans.FreshSets.{how_many, is_at}
use Rattle.exb_plan.proofs.shortage.count_at.Given as goal

-- those of the sets so far
abbrev pub invariant-loop-set : goal.invariant-loop-set
invariant-loop-set l = record {
  counted : l.count ≡ how_many (is_at l.bridge_port) (map seen (take l.set-index l.sets));
  few : l.count ≤ l.set-index;
}
