use Rattle.std.proofs.Common.{◌≡◌, ◌-◌, ℕ, map, take}
use Rattle.exb_control_spec.specs.Plans.Sets.{seen}
use Rattle.exb_plan.specs.SpaceContents.{held_by}
use Rattle.exb_plan.specs.RisingNumbers.{is_among, IsRising}
use Rattle.exb_plan.specs.LostUses.{is_left, AreGroups}
use Rattle.exb_plan.proofs.lost_uses.left_at.Given as goal

-- those of the parts so far
abbrev pub invariant-loop-part : goal.invariant-loop-part
invariant-loop-part l = record {
  rising : IsRising l.numbers.items;
  groups : AreGroups l.numbers.items;
  members : (g : ℕ) → is_among l.numbers.items g ≡ is_left (held_by l.spaces) l.uses (map seen (take l.part-index l.parts)) (l.bridge_port - 1) g;
}
