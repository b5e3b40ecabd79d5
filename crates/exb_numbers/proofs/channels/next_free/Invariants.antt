use Rattle.std.proofs.Common.{◌≡◌, ℕ, ◌-◌, ◌<◌, ◌≤◌, true, length}
use Rattle.exb_numbers.specs.Channels.{is_used}
use Rattle.exb_numbers.proofs.channels.next_free.Given as goal

abbrev pub invariant-loop-place : goal.invariant-loop-place
invariant-loop-place l = record {
  low : l.from ≤ l.place;
  high : l.place ≤ length l.ports;
  passed : (c : ℕ) → l.from ≤ c → c < l.place → is_used l.ports c ≡ true;
}

abbrev pub decreases-loop-place : goal.decreases-loop-place
decreases-loop-place l = length l.ports - l.place
