use Rattle.std.proofs.Common.{◌≡◌, ◌<◌, ℕ, true, slice_index_or}
use Rattle.exb_schedule.specs.SeededSegments.{GoesOn}
use Rattle.exb_schedule.proofs.seeded_segments.give_arrivals.Given as goal

-- Those before it came.
abbrev pub invariant-loop-at : goal.invariant-loop-at
invariant-loop-at l = record {
  on : GoesOn l.commands l.arrivals l.fn.rest l.rest l.fn.world l.world;
  before : (i : ℕ) → i < l.at → slice_index_or l.rest.given.items i true ≡ true;
  seconds : l.rest.seconds ≡ l.fn.rest.seconds;
  taken : l.rest.taken ≡ l.fn.rest.taken;
  failed : l.world.failed ≡ l.fn.world.failed;
}
