use Rattle.std.proofs.Common.{◌+◌, ◌≤◌, drop}
use Rattle.exb_model.specs.declared.setup.Timed.{Timed}
use Rattle.exb_world_spec.specs.Worlds.{Order}
use Rattle.exb_schedule.specs.SegmentRuns.{letters_in}
use Rattle.exb_schedule.proofs.SegmentInput.{HasGiven}
use Rattle.exb_schedule.proofs.segment.give.Given as goal

-- So many commands were given, and the plans of the others are still to come.
abbrev pub invariant-loop-command : goal.invariant-loop-command
invariant-loop-command g l = record {
  given : HasGiven (λ (c : Timed). Order c.command) l.commands l.command-index l.fn.world l.world;
  few : (goal.Fate-dyn g l.fate.now).left l.fate.now.1 + letters_in (drop l.command-index l.commands)
      ≤ (goal.Fate-dyn g l.fn.fate.now).left l.fn.fate.now.1 + letters_in l.commands;
}
