use Rattle.std.proofs.Common.{◌≡◌, ℕ, ◌-◌, ◌<◌, ◌≤◌, true, length}
use Rattle.exb_numbers.specs.Groups.{sets_of}
use Rattle.exb_numbers.specs.GroupOrder.{is_held}
use Rattle.exb_numbers.proofs.groups.next_free.Given as goal

abbrev pub invariant-loop-place : goal.invariant-loop-place
invariant-loop-place l = record {
  low : l.from ≤ l.place;
  high : l.place ≤ length l.sets;
  passed : (n : ℕ) → l.from ≤ n → n < l.place → is_held (sets_of l.sets) n ≡ true;
}

abbrev pub decreases-loop-place : goal.decreases-loop-place
decreases-loop-place l = length l.sets - l.place
