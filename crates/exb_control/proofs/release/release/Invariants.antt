use Rattle.std.proofs.Common.{◌≡◌, [], take}
use Rattle.exb_plan.specs.SpaceContents.{held_by}
use Rattle.exb_plan.specs.PlanValues.{IsAlike}
use Rattle.exb_control_spec.specs.Plans.HeldNumbers.{in_spaces}
use Rattle.exb_control.proofs.FreedNumbers.{released}
use Rattle.exb_control.proofs.release.release.Given as goal

-- the channels so far
abbrev pub invariant-loop-number : goal.invariant-loop-number
invariant-loop-number l = record {
  held : in_spaces l.tree (held_by l.spaces) ≡ released (take l.number-index l.channels) [] (in_spaces l.tree (held_by l.fn.spaces));
  alike : IsAlike l.fn.spaces l.spaces;
}

-- all channels, and the groups so far
abbrev pub invariant-loop-number-2 : goal.invariant-loop-number-2
invariant-loop-number-2 l = record {
  held : in_spaces l.tree (held_by l.spaces) ≡ released l.change.channels (take l.number-index l.groups) (in_spaces l.tree (held_by l.fn.spaces));
  alike : IsAlike l.fn.spaces l.spaces;
}
