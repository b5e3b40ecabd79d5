use Rattle.std.proofs.Common.{◌≡◌, ◌+◌, ◌-◌, ◌≤◌, drop, length}
use Rattle.exb_schedule.specs.SeededSegments.{GoesOn}
use Rattle.exb_schedule.specs.SegmentRuns.{letters_in}
use Rattle.exb_schedule.proofs.seeded_segments.give_commands.Given as goal

-- Some of them were given.
abbrev pub invariant-commands : goal.invariant-commands
invariant-commands g l = record {
  on : GoesOn l.commands l.arrivals l.fn.rest l.rest l.fn.world l.world;
  few : (goal.Fate-dyn g l.fate.now).left l.fate.now.1 + letters_in (drop l.rest.taken l.commands)
      ≤ (goal.Fate-dyn g l.fn.fate.now).left l.fn.fate.now.1 + letters_in (drop l.fn.rest.taken l.commands);
  seconds : l.rest.seconds ≡ l.fn.rest.seconds;
  failed : l.world.failed ≡ l.fn.world.failed;
}

abbrev pub decreases-commands : goal.decreases-commands
decreases-commands g l = length l.commands - l.rest.taken
