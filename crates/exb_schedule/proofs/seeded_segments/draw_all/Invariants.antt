use Rattle.std.proofs.Common.{◌≡◌, ℕ, ◌+◌, ◌≤◌, drop}
use Rattle.exb_schedule.specs.SeededSegments.{HasDrawn}
use Rattle.exb_schedule.specs.SegmentRuns.{letters_in}
use Rattle.exb_schedule.proofs.seeded_segments.draw_all.Given as goal

-- Of the segment this was drawn.
abbrev pub invariant-draws : goal.invariant-draws
invariant-draws g l = record {
  on : (all : ℕ) → HasDrawn all l.commands l.arrivals l.fn.rest.seconds l.fn.rest.taken l.fn.rest.given.items l.fn.world l.fn.world
      → HasDrawn all l.commands l.arrivals l.rest.seconds l.rest.taken l.rest.given.items l.fn.world l.world;
  few : (goal.Fate-dyn g l.fate.now).left l.fate.now.1 + letters_in (drop l.rest.taken l.commands)
      ≤ (goal.Fate-dyn g l.fn.fate.now).left l.fn.fate.now.1 + letters_in (drop l.fn.rest.taken l.commands);
  failed : l.world.failed ≡ l.fn.world.failed;
}

abbrev pub decreases-draws : goal.decreases-draws
decreases-draws g l = l.draws
