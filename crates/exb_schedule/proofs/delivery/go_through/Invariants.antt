use Rattle.std.proofs.Common.{◌+◌, ◌<◌, ◌≤◌, ◌^◌}
use Rattle.exb_world_spec.specs.Settling.{direction}
use Rattle.exb_world.specs.WorldContracts.{world_of, tree_of, bounds_of}
use Rattle.exb_world.specs.Steps.{way_of}
use Rattle.exb_schedule.specs.Rounds.{goes_along, GoesThrough}
use Rattle.exb_schedule.proofs.delivery.go_through.Given as goal

-- Of the whole the words that are left are still to be looked at.
abbrev pub invariant-words : goal.invariant-words
invariant-words g l = record {
  whole : GoesThrough l.link (way_of l.way) (goes_along (tree_of l.fn.world) (bounds_of l.fn.world) (direction (way_of l.way) l.link) (world_of l.fn.world))
      ((goal.Fate-dyn g l.fn.fate.now).left l.fn.fate.now.1) ((goal.Fate-dyn g l.fate.now).left l.fate.now.1)
      l.fn.world l.world l.rest;
  low : l.rest.place + l.rest.control < 2 ^ 64;
  falls : (goal.Fate-dyn g l.fate.now).left l.fate.now.1 ≤ (goal.Fate-dyn g l.fn.fate.now).left l.fn.fate.now.1;
}

abbrev pub decreases-words : goal.decreases-words
decreases-words g l = l.rest.frames + l.rest.control
