use Rattle.std.proofs.Common.{◌≡◌, ℕ, ◌<◌, get_or}
use Rattle.exb_numbers.proofs.groups.are_same.Given as goal

-- the words so far are the same
abbrev pub invariant-loop-device : goal.invariant-loop-device
invariant-loop-device l = (k : ℕ) → k < l.device → get_or l.one.words k 0 ≡ get_or l.other.words k 0
