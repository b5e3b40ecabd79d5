use Rattle.std.proofs.Common.{◌-◌, ◌≤◌}
use Rattle.exb_world.specs.Steps.{way_of}
use Rattle.exb_schedule.proofs.DirectionOrder.{ThoseFrom}
use Rattle.exb_schedule.proofs.delivery.go_one_way.Given as goal

-- Of the whole the directions from this place on are still to be gone through.
abbrev pub invariant-directions : goal.invariant-directions
invariant-directions g l = record {
  those : ThoseFrom (way_of l.way) ((goal.Fate-dyn g l.fn.fate.now).left l.fn.fate.now.1)
      ((goal.Fate-dyn g l.fate.now).left l.fate.now.1) l.fn.world l.world l.from;
  low : l.from ≤ 64;
  falls : (goal.Fate-dyn g l.fate.now).left l.fate.now.1 ≤ (goal.Fate-dyn g l.fn.fate.now).left l.fn.fate.now.1;
}

abbrev pub decreases-directions : goal.decreases-directions
decreases-directions g l = 64 - l.from
